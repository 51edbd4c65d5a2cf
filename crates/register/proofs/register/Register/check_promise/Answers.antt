use Rattle.std.proofs.Common.{◌≡◌, true, get_or, pos, sym, ap, ◌∙◌, subst, w32, to_z, of_z}
use lib.Signed.{lt_z}
use Rattle.std.proofs.lemmas.Int.{to_z-of_z}
use Rattle.model.specs.Entries.{is_entry}
use Rattle.model.specs.declared.faults.Fault.TheVariants.{NotItsBallot, PromisedAlready}
use Rattle.model.proofs.Proper.{clean_is_entry}
use Rattle.steps.specs.Entries.{promising}
use Rattle.steps.specs.Rows.{entry_at}
use Rattle.model.specs.Checks.{demand}
use Rattle.machine.specs.Refusals.{owns}
use Rattle.machine.proofs.Ballots.{owned, promising_entry, fits, in_words}
use Rattle.machine.proofs.Checks.{passed, went_on, passes_none}
use Rattle.register.proofs.register.Register.check_promise.Goals as goal

pub returns : goal.returns
returns g c =
    let n = c.args.self.now.size.n in
    let p = c.args.p in
    let b = c.args.b in
    let row = c.args.row.now.entries in
    let own = c.clean-own.result in
    let is : own ≡ entry_at row p = c.clean-own.ensures in
    let ok : is_entry own ≡ true = subst (λ e. is_entry e ≡ true) (sym is) (clean_is_entry (get_or row p (record { promise = pos 0; vote = pos 0; code = 0 }))) in
    let wide : to_z w32 (of_z w32 b) ≡ b = to_z-of_z w32 b c.ranges.b in
    let mine : owns n p b ≡ true
    = subst (λ z. owns n p z ≡ true) wide (sym c.owns.ensures ∙ went_on c.owns.result NotItsBallot c.check.result c.check.ensures c.in_ok-check.was) in
    let above : lt_z own.promise b ≡ true
    = sym (in_words lt_z own.promise b (fits own ok).0 c.ranges.b) ∙ went_on _ PromisedAlready c.check-2.result c.check-2.ensures c.in_ok-check-2.was in
    let next = c.promising.ensures ∙ ap (promising own) wide in (
      passed (demand (owns n p b) NotItsBallot) (demand (lt_z (entry_at row p).promise b) PromisedAlready) (passes_none (owns n p b) NotItsBallot mine) ∙ passes_none (lt_z (entry_at row p).promise b) PromisedAlready (subst (λ e. lt_z e.promise b ≡ true) is above),
      (
        next ∙ ap (λ e. promising e b) is,
        subst (λ e. is_entry e ≡ true) (sym next) (promising_entry own b ok (owned n p b mine) above),
      ),
    )
