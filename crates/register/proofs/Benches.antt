-- Lemmas for the calls of a bench. Assumes nothing.
use Rattle.std.proofs.Common.{◌≡◌, ℕ, ◌%◌, Bool, true, false, cond, ◌&&◌, eqb, ltb, leb, List, length, vec_items, ℤ, pos, negsuc, Some, None, Ok, Err, Option, Result, sym, refl, ap, ◌∙◌, subst, inl, inr, arith}
use lib.Signed.{lt_z}
use Rattle.std.specs.Option.{option_or}
use Rattle.std.specs.Result.{MatchResult}
use Rattle.std.specs.Vec.{with_items}
use Rattle.std.proofs.lemmas.List.{with_items_is}
use Rattle.std.proofs.lemmas.Bool.Decides.{nat_tests}
use Rattle.kinds.specs.declared.glyph.Glyph.{Glyph}
use Rattle.machine.specs.Board.{Board, Turn, row_of}
use Rattle.machine.specs.Calls.{Prepares, Accepts}
use Rattle.model.specs.Checks.{demand}
use Rattle.machine.specs.Refusals.{cell_door, prepare_refusal}
use Rattle.model.specs.declared.faults.Fault.TheVariants.{NotItsBallot, PromisedAlready}
use Rattle.model.specs.declared.faults.Fault.{Fault}
use Rattle.model.specs.declared.rows.Row.{Row}
use Rattle.posts.specs.declared.line.Line.{Line}
use Rattle.quorums.specs.declared.majority.Majority.{Majority}
use Rattle.steps.specs.Rows.{entry_at}
use Rattle.stores.specs.declared.page.PageStore.{PageStore}
use Rattle.register.specs.Benches.{our_makes, bench_board, as_ballot, handed_back}
use Rattle.register.specs.State.{board, turn}
use Rattle.register.specs.declared.bench.Bench.{Bench}
use Rattle.register.specs.declared.register.Register.{Register}
use Rattle.register.specs.declared.round.Round.{Round}

abbrev pub Place : Type 0
Place = Board Majority Line PageStore

-- answers that name a round by its numbers
abbrev pub by_turn : Result (Round × ℕ) Fault → Result (Turn × ℕ) Fault
by_turn (Ok (round, kept)) = Ok (turn round, kept)
by_turn (Err f) = Err f

prepares_turn : (x y : Place) (p c : ℕ) (b : ℤ) (r : Result (Round × ℕ) Fault) → Prepares our_makes turn x p c b r y → Prepares our_makes (λ t. t) x p c b (by_turn r) y
prepares_turn x y p c b (Ok (round, kept)) h = h
prepares_turn x y p c b (Err f) h = h

-- a refusal is told without the round that it hands back
accepts_told : (x y : Place) (round : Round) (glyph : Glyph) (r : Result (Glyph × ℕ) (Fault × Round)) (s : Result (Glyph × ℕ) Fault) → MatchResult r (λ answer. s ≡ Ok answer) (λ refused. s ≡ Err refused.0)
    → Accepts our_makes turn x round glyph r y → Accepts our_makes (λ t. t) x (turn round) glyph (handed_back (turn round) s) y
accepts_told x y round glyph (Ok answer) s told h = subst (λ r. Accepts our_makes (λ t. t) x (turn round) glyph (handed_back (turn round) r) y) (sym told) h
accepts_told x y round glyph (Err (f, back)) s told h = subst (λ r. Accepts our_makes (λ t. t) x (turn round) glyph (handed_back (turn round) r) y) (sym told) (refl, h.1)

never_none : (o : Option Fault) (f : Fault) → option_or o (Some f) ≡ None → ⊥
never_none None f h = let z : ◌≡◌ {A = Option Fault} (Some f) None = h in grind (arith, nat_tests)
never_none (Some g) f h = grind (arith, nat_tests)

-- a number past the ballots is refused as -1 is
refused_alike : (x : Place) (p c b : ℕ) → leb b 16777214 ≡ false → prepare_refusal x.table p c (negsuc 0) ≡ prepare_refusal x.table p c (pos b)
refused_alike x p c b e =
    ap (λ t. option_or (cell_door x.table p c) (option_or (demand (t && eqb (b % x.table.n) p) NotItsBallot) (demand (lt_z (entry_at (row_of x.table p c) p).promise (pos b)) PromisedAlready))) (sym e)

prepares_past : (x y : Place) (p c b : ℕ) (r : Result (Turn × ℕ) Fault) → leb b 16777214 ≡ false → Prepares our_makes (λ t. t) x p c (negsuc 0) r y → Prepares our_makes (λ t. t) x p c (pos b) r y
prepares_past x y p c b (Ok (round, kept)) e h = absurd (never_none (cell_door x.table p c) NotItsBallot h.0)
prepares_past x y p c b (Err f) e (inl refused) = inl (sym (refused_alike x p c b e) ∙ refused.0, refused.1)
prepares_past x y p c b (Err f) e (inr stopped) = absurd (never_none (cell_door x.table p c) NotItsBallot stopped.0)

prepares_number : (x y : Place) (p c b : ℕ) (r : Result (Turn × ℕ) Fault) → Prepares our_makes (λ t. t) x p c (as_ballot b) r y → Prepares our_makes (λ t. t) x p c (pos b) r y
prepares_number x y p c b r = go (ltb b 2147483647) refl where
  go : (t : Bool) → ltb b 2147483647 ≡ t → Prepares our_makes (λ t. t) x p c (cond t (pos b) (negsuc 0)) r y → Prepares our_makes (λ t. t) x p c (pos b) r y
  go true e h = h
  go false e h = prepares_past x y p c b r (grind (arith, nat_tests)) h

-- what a step did over the rows that a bench lends it, it did to the bench
module _ {K : Type 0} (bench : Bench) (register : Register K Majority Line PageStore) (before after : List Row) (page : PageStore) (line : Line) (was : before ≡ vec_items bench.rows) (long : length after ≡ bench.rows.len) where
  pub settled : (P : Place → Place → Type 0) → P (board bench.register before bench.page bench.line) (board register after page line)
      → P (bench_board bench) (board register (vec_items (with_items bench.rows after)) page line)
  settled P h =
      subst (λ rows. P (bench_board bench) (board register rows page line)) (sym (with_items_is bench.rows after long))
      (subst (λ rows. P (board bench.register rows bench.page bench.line) (board register after page line)) was h)

  pub prepared : (p c b : ℕ) (z : ℤ) (r : Result (Round × ℕ) Fault) → z ≡ as_ballot b
      → Prepares our_makes turn (board bench.register before bench.page bench.line) p c z r (board register after page line)
      → Prepares our_makes (λ t. t) (bench_board bench) p c (pos b) (by_turn r) (board register (vec_items (with_items bench.rows after)) page line)
  prepared p c b z r e h =
      let x = bench_board bench in
      let y = board register (vec_items (with_items bench.rows after)) page line in
      prepares_number x y p c b (by_turn r) (prepares_turn x y p c (as_ballot b) r
      (subst (λ k. Prepares our_makes turn x p c k r y) e (settled (λ u v. Prepares our_makes turn u p c z r v) h)))

  pub accepted : (round : Round) (glyph : Glyph) (r : Result (Glyph × ℕ) (Fault × Round)) (s : Result (Glyph × ℕ) Fault)
      → MatchResult r (λ answer. s ≡ Ok answer) (λ refused. s ≡ Err refused.0)
      → Accepts our_makes turn (board bench.register before bench.page bench.line) round glyph r (board register after page line)
      → Accepts our_makes (λ t. t) (bench_board bench) (turn round) glyph (handed_back (turn round) s) (board register (vec_items (with_items bench.rows after)) page line)
  accepted round glyph r s told h =
      accepts_told (bench_board bench) (board register (vec_items (with_items bench.rows after)) page line) round glyph r s told
      (settled (λ u v. Accepts our_makes turn u round glyph r v) h)
