use Rattle.std.proofs.Common.{◌≡◌, None, Ok, sym, refl, ap, ◌∙◌, subst, w32, to_z, of_z}
use Rattle.std.proofs.lemmas.Int.{to_z-of_z}
use Rattle.std.proofs.lemmas.Bool.{eq-eqb}
use Rattle.frames.specs.declared.sort.Sort.TheVariants.{Prepare}
use Rattle.model.specs.Sets.{all_but}
use Rattle.steps.specs.Entries.{promising}
use Rattle.steps.specs.Rows.{entry_at}
use Rattle.machine.specs.Board.{makes, row_at, row_of}
use Rattle.register.specs.State.{table, board, turn}
use Rattle.machine.specs.Calls.{Announced, Prepares}
use Rattle.machine.specs.Refusals.{cell_door, promise_fault}
use Rattle.machine.proofs.Checks.{passed}
use Rattle.machine.proofs.Growing.{prepares_grow}
use Rattle.register.proofs.Laws.{stand}
use Rattle.register.proofs.register.Register.prepare.Goals as goal

pub announce-requires : goal.announce-requires
announce-requires g c =
    let here = c.in_ok-place.ensures.1 in
    (here.participant, (here.cell, (here.all_rows, (c.in_ok-next.ensures.1.1, eq-eqb (all_but c.args.self.now.size.n c.args.p) _ refl))))

pub returns-in_err-kept-clause-grows : goal.returns-in_err-kept-clause-grows
returns-in_err-kept-clause-grows g c = stand _ _ (ap (λ t. t.rows) c.in_err-kept.ensures.table)

pub returns : goal.returns
returns g c =
    let n = c.args.self.now.size.n in
    let p = c.args.p in
    let b = c.args.b in
    let rows = c.args.rows.now in
    let t = table c.args.self.now rows in
    let m = makes g.K.Kind.means g.Q.QuorumRule.means g.P.Post.means g.S.Store.means in
    let x = board c.args.self.now rows c.args.store.now c.args.post.now in
    let y = board c.announce.new.self c.announce.new.rows c.announce.new.store c.announce.new.post in
    let here = c.in_ok-place.ensures in
    let next = c.in_ok-next.ensures in
    let at = here.1.row in
    let wide : to_z w32 (of_z w32 b) ≡ b = to_z-of_z w32 b c.ranges.b in
    let free : promise_fault n (row_of t p c.args.c) p b ≡ None = sym (λ i. promise_fault n (row_at rows (at i)) p (wide i)) ∙ next.0 in
    let made = next.1.0 ∙ (λ i. promising (entry_at (row_at rows (at i)) p) (wide i)) in
    let does : Prepares m turn x p c.args.c b (Ok (c.new.result, c.in_ok-kept.kept)) y = (
      passed (cell_door t p c.args.c) (promise_fault n (row_of t p c.args.c) p b) here.0 ∙ free,
      (λ i. record { p = c.new.ensures.0 i; c = c.new.ensures.1 i; b = (c.new.ensures.2 ∙ wide) i }),
      subst (λ e. Announced m x Prepare p c.args.c e c.in_ok-kept.kept y) made c.in_ok-kept.ensures,
    ) in
    record { does = does; grows = prepares_grow m g.met.K.Kind.lawful turn x y p c.args.c b (Ok (c.new.result, c.in_ok-kept.kept)) does }
