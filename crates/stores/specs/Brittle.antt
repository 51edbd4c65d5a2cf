-- What a brittle layer means over the store below it. Assumes nothing.
use Rattle.std.specs.Prelude.{◌≡◌, ℕ, Bool, true, false, cond, ◌||◌, Err, Result, ◌==◌}
use Rattle.model.specs.declared.entries.Entry.{Entry}
use Rattle.stores.specs.Meaning.{StoreMeaning, Saves}
use Rattle.stores.specs.declared.brittle.Brittle.{Brittle}
use Rattle.stores.specs.declared.store.SaveFailed.{SaveFailed}

-- the next save asked of it is the one that fails
abbrev pub due : {S : Type 0} → Brittle S → Bool
due s = s.until == 1

module _ {S : Type 0} (m : StoreMeaning S) where
  -- it holds what is held below, and fails where it is due or the store below fails
  abbrev pub brittle : StoreMeaning (Brittle S)
  brittle = record {
    places = λ s. m.places s.below;
    at = λ s k. m.at s.below k;
    fails = λ s k e. due s || m.fails s.below k e;
  }

  -- what becomes of the store below, whether the failure is due and whether the layer saves first
  abbrev pub SavesBelow : Bool → Bool → S → ℕ → Entry → Result (Unit {0}) SaveFailed → S → Type 0
  SavesBelow false first before k e r after = Saves m before k e r after
  SavesBelow true false before k e r after = (r ≡ Err (record { place = k })) × (after ≡ before)
  SavesBelow true true before k e r after =
      (r ≡ Err (record { place = k })) × ((answer : Result (Unit {0}) SaveFailed) × Saves m before k e answer after)

  -- after the save that is due the place holds the new entry where the layer saves first, else the old one, unless the store below would fail
  abbrev pub HoldsWhenDue : Brittle S → ℕ → Entry → Brittle S → Type 0
  HoldsWhenDue before k e after = due before ≡ true → m.fails before.below k e ≡ false → m.at after.below k ≡ cond before.saves_first e (m.at before.below k)
