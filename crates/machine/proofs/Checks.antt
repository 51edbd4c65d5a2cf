-- Lemmas on checks one after another. Assumes nothing.
use Rattle.std.proofs.Common.{◌≡◌, Bool, true, false, is_ok, Some, None, Ok, Option, Result, sym, refl, ap, ◌∙◌, subst}
use Rattle.std.specs.Option.{option_or}
use Rattle.model.specs.declared.faults.Fault.{Fault}
use Rattle.model.specs.Checks.{demand, unless}
use Rattle.machine.specs.Refusals.{Opens}

-- after a check that passed, the next one decides
pub passed : (first later : Option Fault) → first ≡ None → option_or first later ≡ later
passed first later h = ap (λ z. option_or z later) h

-- a check that let the call go on has passed
pub went_on : (passes : Bool) (f : Fault) (r : Result (Unit {0}) Fault) → r ≡ unless (demand passes f) tt → r ≡ Ok tt → passes ≡ true
went_on true f r is ok = refl
went_on false f r is ok = ap is_ok (sym is ∙ ok)

pub passes_none : (passes : Bool) (f : Fault) → passes ≡ true → demand passes f ≡ None
passes_none passes f h = ap (λ t. demand t f) h

pub opens_unless : (checks : Option Fault) (P : Type 0) (r : Result (Unit {0}) Fault) → P → r ≡ unless checks tt → Opens checks (λ _. P) r
opens_unless None P r p is = subst (Opens None (λ _. P)) (sym is) (refl, p)
opens_unless (Some f) P r p is = subst (Opens (Some f) (λ _. P)) (sym is) refl
