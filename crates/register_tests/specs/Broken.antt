-- A store that fails each save. Assumes nothing.
use Rattle.std.specs.Prelude.{true}
use Rattle.model.specs.Entries.{none}
use Rattle.stores.specs.Meaning.{StoreMeaning}
use Rattle.register_tests.specs.declared.broken.Broken.{Broken}

abbrev pub broken_means : StoreMeaning Broken
broken_means = record { places = λ s. s.places; at = λ s k. none; fails = λ s k e. true }
