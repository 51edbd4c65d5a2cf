-- What a store means, the laws that make it one, and what a save does. Assumes nothing.
use Rattle.std.specs.Prelude.{◌≡◌, ℕ, ◌≤◌, Bool, true, false, ◌⊎◌, Ok, Err, Result, ◌≢◌}
use Rattle.model.specs.Entries.{none, is_entry}
use Rattle.model.specs.declared.entries.Entry.{Entry}
use Rattle.stores.specs.declared.store.SaveFailed.{SaveFailed}

-- how many places there are, the entry at each, and whether a save of an entry at a place would fail now
pub record StoreMeaning (S : Type 0) : Type 0 where
  pub places : S → ℕ
  pub at : S → ℕ → Entry
  pub fails : S → ℕ → Entry → Bool

pub record StoreLaws {S : Type 0} (m : StoreMeaning S) : Type 0 where
  -- what is held is an entry
  pub held : (s : S) (k : ℕ) → is_entry (m.at s k) ≡ true
  -- a missing place holds none, and a save there would fail
  pub missing : (s : S) (k : ℕ) → m.places s ≤ k → m.at s k ≡ none
  pub no_place : (s : S) (k : ℕ) (e : Entry) → m.places s ≤ k → m.fails s k e ≡ true

module _ {S : Type 0} (m : StoreMeaning S) where
  -- nothing was ever saved
  abbrev pub Fresh : S → Type 0
  Fresh s = (k : ℕ) → m.at s k ≡ none

  -- there are as many places as before, and all but place k hold what they held
  pub record OnlyAt (k : ℕ) (before after : S) : Type 0 where
    pub places : m.places after ≡ m.places before
    pub others : (j : ℕ) → (j ≢ k) → m.at after j ≡ m.at before j

  -- a save of e at place k: where it would not fail the place holds e, else the old entry or e
  abbrev pub Saves : S → ℕ → Entry → Result (Unit {0}) SaveFailed → S → Type 0
  Saves before k e (Ok _) after = (m.fails before k e ≡ false) × (m.at after k ≡ e) × OnlyAt k before after
  Saves before k e (Err f) after =
      (m.fails before k e ≡ true) × (f.place ≡ k) × ((m.at after k ≡ m.at before k) ⊎ (m.at after k ≡ e)) × OnlyAt k before after
