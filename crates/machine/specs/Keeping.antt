-- What saving an own entry does to the store and to who is down. Assumes nothing.
use Rattle.std.specs.Prelude.{◌≡◌, ℕ, ◌⊎◌, Ok, Err, Result, ◌≢◌}
use Rattle.model.specs.declared.faults.Fault.TheVariants.{SaveFailed}
use Rattle.model.specs.Sets.{with}
use Rattle.model.specs.declared.entries.Entry.{Entry}
use Rattle.model.specs.declared.faults.Fault.{Fault}
use Rattle.stores.specs.Meaning.{StoreMeaning, Saves}

module _ {S : Type 0} (m : StoreMeaning S) where
  -- a save of e: where it fails the fault is 12 at the store's place, and p is down
  abbrev pub Keeps : S → ℕ → ℕ → ℕ → Entry → Result (Unit {0}) Fault → S → ℕ → Type 0
  Keeps before down p place e (Ok u) after downs = Saves m before place e (Ok tt) after × (downs ≡ down)
  Keeps before down p place e (Err f) after downs =
      Saves m before place e (Err (record { place = place })) after × (f ≡ SaveFailed place) × (downs ≡ with down p)

  -- only an entry that changed is saved
  abbrev pub SavesChange : S → ℕ → Entry → Entry → S → Type 0
  SavesChange before place old new after =
      ((new ≡ old) × (after ≡ before)) ⊎ ((new ≢ old) × Saves m before place new (Ok tt) after)

  abbrev pub KeepsChange : S → ℕ → ℕ → ℕ → Entry → Entry → Result (Unit {0}) Fault → S → ℕ → Type 0
  KeepsChange before down p place old new (Ok u) after downs = SavesChange before place old new after × (downs ≡ down)
  KeepsChange before down p place old new (Err f) after downs = (new ≢ old) × Keeps before down p place new (Err f) after downs
