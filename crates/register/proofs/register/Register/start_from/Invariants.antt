use Rattle.std.proofs.Common.{◌≡◌, ℕ, ◌+◌, ◌<◌, length}
use Rattle.machine.specs.Starts.{first_row, row_in}
use Rattle.register.proofs.register.Register.start_from.Given as goal

abbrev pub invariant-loop-c : goal.invariant-loop-c
invariant-loop-c g l = record {
  long : length l.rows ≡ length l.initial.rows;
  own : (k : ℕ) → k < l.c → row_in l.rows k ≡ first_row l.p (g.S.Store.means.at l.store (l.from + k));
}
