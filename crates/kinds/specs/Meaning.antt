-- What a kind of value means, and the laws that make it one. Assumes nothing.
use Rattle.std.specs.Prelude.{◌≡◌, ℕ, ◌^◌, ◌<◌, Some, Option}

-- the kind's number, each value's code, and the value of a code, if it has one
pub record KindMeaning (V : Type 0) : Type 0 where
  pub number : ℕ
  pub code : V → ℕ
  pub value : ℕ → Option V

pub record KindLaws {V : Type 0} (m : KindMeaning V) : Type 0 where
  -- the number fits its four bits of a frame
  pub small : m.number < 16
  -- a code fits its 48 bits
  pub fits : (v : V) → m.code v < 2 ^ 48
  -- a value's code gives the value back
  pub back : (v : V) → m.value (m.code v) ≡ Some v
  -- a code that has a value is the code of it
  pub same : (c : ℕ) (v : V) → m.value c ≡ Some v → m.code v ≡ c
