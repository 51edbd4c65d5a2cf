-- What a quorum rule means, and the laws that make it one. A set of participants is a test on their numbers. Assumes nothing.
use Rattle.std.specs.Prelude.{◌≡◌, ℕ, ◌<◌, Bool, true}

-- the number of participants, and which sets of them suffice to promise and to choose
pub record RuleMeaning (Q : Type 0) : Type 0 where
  pub size : Q → ℕ
  pub promises : Q → (ℕ → Bool) → Bool
  pub chooses : Q → (ℕ → Bool) → Bool

-- each of the n participants that is in s is in t
abbrev pub Within : ℕ → (ℕ → Bool) → (ℕ → Bool) → Type 0
Within n s t = (i : ℕ) → i < n → s i ≡ true → t i ≡ true

-- each of the n participants is in s
abbrev pub Everyone : ℕ → (ℕ → Bool) → Type 0
Everyone n s = (i : ℕ) → i < n → s i ≡ true

-- some one of the n participants is in both
abbrev pub Share : ℕ → (ℕ → Bool) → (ℕ → Bool) → Type 0
Share n s t = (i : ℕ) × (i < n) × (s i ≡ true) × (t i ≡ true)

pub record RuleLaws {Q : Type 0} (m : RuleMeaning Q) : Type 0 where
  -- a promising set and a choosing set share a participant
  pub crossing : (q : Q) (s t : ℕ → Bool) → m.promises q s ≡ true → m.chooses q t ≡ true → Share (m.size q) s t
  -- a larger set suffices where a smaller one does
  pub promises_grow : (q : Q) (s t : ℕ → Bool) → Within (m.size q) s t → m.promises q s ≡ true → m.promises q t ≡ true
  pub chooses_grow : (q : Q) (s t : ℕ → Bool) → Within (m.size q) s t → m.chooses q s ≡ true → m.chooses q t ≡ true
  -- all together suffice for both
  pub all_promise : (q : Q) (s : ℕ → Bool) → Everyone (m.size q) s → m.promises q s ≡ true
  pub all_choose : (q : Q) (s : ℕ → Bool) → Everyone (m.size q) s → m.chooses q s ≡ true
