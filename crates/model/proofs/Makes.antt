-- Values made where a test passes. Assumes nothing.
use Rattle.std.proofs.Common.{◌≡◌, ℕ, Bool, true, false, T, Some, None, refl, arith}
use Rattle.model.specs.Makers.{made_if}

-- where the test passes the value is made, whatever shows that it does
pub made_by : {X : Type 0} (test : Bool) (make : T test → X) (t : T test) → made_if test make ≡ Some (make t)
made_by true make t = refl
made_by false make t = absurd t

-- where it fails nothing is
pub made_none : {X : Type 0} (test : Bool) (make : T test → X) → test ≡ false → made_if test make ≡ None
made_none true make e = cc
made_none false make e = refl

-- and what is made passed the test
pub made_back : {X : Type 0} (test : Bool) (make : T test → X) (x : X) → made_if test make ≡ Some x → (t : T test) × (make t ≡ x)
made_back true make x e = (tt, cc)
made_back false make x e = let z : ◌≡◌ {A = ℕ} 0 1 = cc in absurd (omega arith)
