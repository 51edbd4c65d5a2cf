use Rattle.std.proofs.Common.{◌≡◌, ℕ, ◌≤◌, min, true, List, Err, sym, refl, ap, ◌∙◌, subst, inr, arith, w32, to_z, of_z}
use Rattle.std.proofs.lemmas.Result.{err_from_is_err_and}
use Rattle.std.proofs.lemmas.Int.{to_z-of_z}
use Rattle.std.proofs.lemmas.Bool.{eq-eqb}
use Rattle.frames.specs.declared.sort.Sort.TheVariants.{Accept}
use Rattle.kinds.specs.Meaning.{KindMeaning}
use Rattle.model.specs.Entries.{is_entry}
use Rattle.model.specs.declared.entries.Entry.{Entry}
use Rattle.model.specs.Sets.{all_but}
use Rattle.steps.specs.Entries.{voting}
use Rattle.steps.specs.Rows.{Carries}
use Rattle.machine.specs.Board.{makes, row_at, row_of, place_of}
use Rattle.register.specs.State.{table, board}
use Rattle.machine.specs.Calls.{Stopped, Announced, Votes}
use Rattle.machine.specs.Refusals.{cell_door, vote_fault}
use Rattle.machine.proofs.Ballots.{owned, voting_entry}
use Rattle.machine.proofs.Checks.{passed}
use Rattle.register.proofs.register.Register.vote.Goals as goal

pub announce-requires : goal.announce-requires
announce-requires g c =
    let here = c.in_ok-place.ensures.1 in
    let n = c.args.self.now.size.n in
    let p = c.args.p in
    let mine = c.in_ok-check_vote.ensures.1 in
    let small = g.met.K.Kind.lawful.fits c.carried-value.result in
    let next = c.voting-next.ensures ∙ ap (voting (to_z w32 (of_z w32 c.args.b))) c.code.ensures in (
      here.participant,
      (
        here.cell,
        (
          here.all_rows,
          (
            subst (λ e. is_entry e ≡ true) (sym next) (voting_entry (to_z w32 (of_z w32 c.args.b)) (g.K.Kind.means.code c.carried-value.result) (owned n p (to_z w32 (of_z w32 c.args.b)) mine) small),
            eq-eqb (all_but n p) _ refl,
          ),
        ),
      ),
    )

-- the value carried, by n as it is
carried : {V : Type 0} (m : KindMeaning V) (row : List Entry) (n : ℕ) (wish v : V) → n ≤ 7 → Carries m row (min n 7) wish v → Carries m row n wish v
carried m row n wish v few h = let seven : min n 7 ≡ n = omega arith in subst (λ k. Carries m row k wish v) seven h

pub returns-in_err-kept : goal.returns-in_err-kept
returns-in_err-kept g c =
    let self = c.args.self.now in
    let n = self.size.n in
    let p = c.args.p in
    let b = c.args.b in
    let rows = c.args.rows.now in
    let t = table self rows in
    let m = makes g.K.Kind.means g.Q.QuorumRule.means g.P.Post.means g.S.Store.means in
    let x = board self rows c.args.store.now c.args.post.now in
    let y = board c.announce.new.self c.announce.new.rows c.announce.new.store c.announce.new.post in
    let here = c.in_ok-place.ensures in
    let at = here.1.row in
    let wide : to_z w32 (of_z w32 b) ≡ b = to_z-of_z w32 b c.ranges.b in
    let free = sym (λ i. vote_fault m.rule self.rule n (row_at rows (at i)) p (wide i)) ∙ c.in_ok-check_vote.ensures.0 in
    let v = c.carried-value.result in
    let carries = carried m.kind (row_of t p c.args.c) n c.args.v v self.size.few (subst (λ k. Carries m.kind (row_at rows k) (min n 7) c.args.v v) at c.carried-value.ensures) in
    let made = c.voting-next.ensures ∙ (λ i. voting (wide i) (c.code.ensures i)) in
    let stopped = subst (λ e. Stopped m x p (place_of t p c.args.c) e c.in_err-kept.field-0.0 y) made c.in_err-kept.ensures in
    let out = err_from_is_err_and c.from_residual-in_err-kept.result c.from_residual-in_err-kept.ensures.1 in
    subst (λ r. Votes m x p c.args.c b c.args.v r y) (sym (out.1 ∙ ap Err out.2))
    (inr (passed (cell_door t p c.args.c) (vote_fault m.rule self.rule n (row_of t p c.args.c) p b) here.0 ∙ free, (v, carries, stopped)))

pub returns : goal.returns
returns g c =
    let self = c.args.self.now in
    let n = self.size.n in
    let p = c.args.p in
    let b = c.args.b in
    let rows = c.args.rows.now in
    let t = table self rows in
    let m = makes g.K.Kind.means g.Q.QuorumRule.means g.P.Post.means g.S.Store.means in
    let x = board self rows c.args.store.now c.args.post.now in
    let y = board c.announce.new.self c.announce.new.rows c.announce.new.store c.announce.new.post in
    let here = c.in_ok-place.ensures in
    let at = here.1.row in
    let wide : to_z w32 (of_z w32 b) ≡ b = to_z-of_z w32 b c.ranges.b in
    let free = sym (λ i. vote_fault m.rule self.rule n (row_at rows (at i)) p (wide i)) ∙ c.in_ok-check_vote.ensures.0 in
    let v = c.carried-value.result in
    let carries = carried m.kind (row_of t p c.args.c) n c.args.v v self.size.few (subst (λ k. Carries m.kind (row_at rows k) (min n 7) c.args.v v) at c.carried-value.ensures) in
    let made = c.voting-next.ensures ∙ (λ i. voting (wide i) (c.code.ensures i)) in (
      passed (cell_door t p c.args.c) (vote_fault m.rule self.rule n (row_of t p c.args.c) p b) here.0 ∙ free,
      carries,
      subst (λ e. Announced m x Accept p c.args.c e c.in_ok-kept.kept y) made c.in_ok-kept.ensures,
    )
