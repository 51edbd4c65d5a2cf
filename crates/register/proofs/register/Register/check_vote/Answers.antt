use Rattle.std.proofs.Common.{◌≡◌, min, true, not, get_or, pos, sym, ap, ◌∙◌, subst, arith, w32, to_z, of_z}
use Rattle.std.specs.Option.{option_or}
use Rattle.std.proofs.lemmas.Int.{to_z-of_z}
use Rattle.model.specs.Entries.{is_entry}
use Rattle.model.specs.declared.faults.Fault.TheVariants.{NotPromised, VotedAlready, TooFew}
use Rattle.model.proofs.Proper.{clean_is_entry}
use Rattle.steps.specs.Rows.{entry_at, same_ballot, promised}
use Rattle.model.specs.Checks.{demand, unless}
use Rattle.machine.specs.Refusals.{Opens, owns}
use Rattle.machine.proofs.Ballots.{fits, in_words}
use Rattle.machine.proofs.Checks.{passed, went_on, passes_none, opens_unless}
use Rattle.register.proofs.register.Register.check_vote.Goals as goal

pub returns : goal.returns
returns g c =
    let n = c.args.self.now.size.n in
    let p = c.args.p in
    let b = c.args.b in
    let row = c.args.row.now.entries in
    let own = c.clean-own.result in
    let is : own ≡ entry_at row p = c.clean-own.ensures in
    let ok : is_entry own ≡ true = subst (λ e. is_entry e ≡ true) (sym is) (clean_is_entry (get_or row p (record { promise = pos 0; vote = pos 0; code = 0 }))) in
    let wide : to_z w32 (of_z w32 b) ≡ b = to_z-of_z w32 b c.ranges.b in
    let mine : owns n p b ≡ true
    = subst (λ z. owns n p z ≡ true) wide (sym c.owns.ensures ∙ went_on c.owns.result NotPromised c.check.result c.check.ensures c.in_ok-check.was) in
    let low = fits own ok in
    let promised-own : same_ballot own.promise b ≡ true
    = sym (in_words same_ballot own.promise b low.0 c.ranges.b) ∙ sym c.same_ballot.ensures ∙ went_on c.same_ballot.result NotPromised c.check-2.result c.check-2.ensures c.in_ok-check-2.was in
    let not-voted-own : not (same_ballot own.vote b) ≡ true
    = sym (ap not (c.same_ballot-2.ensures ∙ in_words same_ballot own.vote b low.1 c.ranges.b)) ∙ went_on (not c.same_ballot-2.result) VotedAlready c.check-3.result c.check-3.ensures c.in_ok-check-3.was in
    let promised-b : same_ballot (entry_at row p).promise b ≡ true = subst (λ e. same_ballot e.promise b ≡ true) is promised-own in
    let not-voted : not (same_ballot (entry_at row p).vote b) ≡ true = subst (λ e. not (same_ballot e.vote b) ≡ true) is not-voted-own in
    let seven : min n 7 ≡ n = let few = c.args.self.now.size.few in omega arith in
    let suffices : c.promises.result ≡ g.Q.QuorumRule.means.promises c.args.self.now.rule (promised row n b)
    = c.promises.ensures ∙ ap (g.Q.QuorumRule.means.promises c.args.self.now.rule) (λ i j. ((c.promisers-promising.ensures j) ∙ (λ k. promised row (seven k) (wide k) j)) i) in
    let last = demand (g.Q.QuorumRule.means.promises c.args.self.now.rule (promised row n b)) TooFew in
    let third = demand (not (same_ballot (entry_at row p).vote b)) VotedAlready in
    let second = demand (same_ballot (entry_at row p).promise b) NotPromised in
    let first = demand (owns n p b) NotPromised in
    let open-to = passed first (option_or second (option_or third last)) (passes_none (owns n p b) NotPromised mine)
    ∙ passed second (option_or third last) (passes_none (same_ballot (entry_at row p).promise b) NotPromised promised-b)
    ∙ passed third last (passes_none (not (same_ballot (entry_at row p).vote b)) VotedAlready not-voted) in
    subst (λ s. Opens s (λ _. owns n p b ≡ true) c.check-4.result) (sym open-to)
    (opens_unless last (owns n p b ≡ true) c.check-4.result mine (c.check-4.ensures ∙ (λ i. unless (demand (suffices i) TooFew) tt)))
