-- The bytes of two frames of three participants. Assumes nothing.
use Rattle.std.specs.Prelude.{◌≡◌, ℕ, List, [], ◌∷◌, ◌++◌, replicate, pos, negsuc, refl}
use Rattle.model.specs.declared.entries.Entry.{Entry}
use Rattle.model.specs.Bytes.{written}
use Rattle.model.specs.Entries.{none}
use Rattle.model.specs.Sets.{all_but, single}
use Rattle.frames.specs.declared.sort.Sort.TheVariants.{Prepare, Ack}
use Rattle.frames.specs.Layout.{Heading, laid_out}

abbrev promised : Entry
promised = record { promise = pos 3; vote = negsuc 0; code = 0 }

-- participant 0 prepares ballot 3 in cell 0 of kind 1
abbrev pub prepare_heading : Heading
prepare_heading = record { sort = Prepare; n = 3; sender = 0; kind = 1; to = all_but 3 0; cell = 0 }

abbrev pub prepare_row : List Entry
prepare_row = promised ∷ none ∷ none ∷ []

abbrev pub prepare_bytes : List ℕ
prepare_bytes = 0x13 ∷ 0x01 ∷ 0x06 ∷ 0x00 ∷ 0x00 ∷ 0x00 ∷ 0x04 ∷ replicate 33 0x00

pub prepare_example : laid_out prepare_heading prepare_row ≡ prepare_bytes
unfolding laid_out written
prepare_example = refl

-- participant 1 answers that it has promised ballot 3 too
abbrev pub ack_heading : Heading
ack_heading = record { sort = Ack; n = 3; sender = 1; kind = 1; to = single 0; cell = 0 }

abbrev pub ack_row : List Entry
ack_row = promised ∷ promised ∷ none ∷ []

abbrev pub ack_bytes : List ℕ
ack_bytes = 0x93 ∷ 0x11 ∷ 0x01 ∷ 0x00 ∷ (0x00 ∷ 0x00 ∷ 0x04 ∷ replicate 9 0x00) ++ (0x00 ∷ 0x00 ∷ 0x04 ∷ replicate 21 0x00)

pub ack_example : laid_out ack_heading ack_row ≡ ack_bytes
unfolding laid_out written
ack_example = refl
