-- The commands of a script, and the lines that spell them. Assumes nothing.
use Rattle.std.specs.Prelude.{◌≡◌, ℕ, List, [], ◌∷◌, map, Some, None, codes, Option}
use Rattle.std.specs.List.{find}
use Rattle.std.specs.Str.{bytes_eq}
use Rattle.script.specs.declared.command.Command.{Command}
use Rattle.script.specs.declared.command.Command.TheVariants.{New, Prepare, Accept, Abandon, Deliver, Read}
use Rattle.script.specs.declared.command.Numbers.{Numbers}
use Rattle.script.specs.declared.command.Numbers.TheVariants.{Two, Three}
use Rattle.script.specs.Numerals.{numeral}

-- a command's name
abbrev pub name : Command → List ℕ
name (New n cells) = codes "new"
name (Prepare p c b) = codes "prepare"
name (Accept p c v) = codes "accept"
name (Abandon p c) = codes "abandon"
name (Deliver q k) = codes "deliver"
name (Read p c) = codes "read"

-- and the numbers behind it
abbrev pub numbers : Command → List ℕ
numbers (New n cells) = n ∷ cells ∷ []
numbers (Prepare p c b) = p ∷ c ∷ b ∷ []
numbers (Accept p c v) = p ∷ c ∷ v ∷ []
numbers (Abandon p c) = p ∷ c ∷ []
numbers (Deliver q k) = q ∷ k ∷ []
numbers (Read p c) = p ∷ c ∷ []

-- the pieces of a line are a command's name and words that spell its numbers, and nothing else
abbrev pub Spells : List (List ℕ) → Command → Type 0
Spells ps c = (words : List (List ℕ)) × (ps ≡ name c ∷ words) × (map numeral words ≡ map Some (numbers c))

-- what they are read as: the one command that they spell, or none if they spell none
abbrev pub ReadsAs : List (List ℕ) → Option Command → Type 0
ReadsAs ps None = (c : Command) → Spells ps c → ⊥
ReadsAs ps (Some c) = Spells ps c × ((d : Command) → Spells ps d → d ≡ c)

-- the same as a function: the words behind the first as numbers, the commands that take so many, the one of that name
abbrev pub both : Option ℕ → Option (List ℕ) → Option (List ℕ)
both None ns = None
both (Some n) None = None
both (Some n) (Some ns) = Some (n ∷ ns)

abbrev pub numerals : List (List ℕ) → Option (List ℕ)
numerals [] = Some []
numerals (w ∷ ws) = both (numeral w) (numerals ws)

abbrev pub taking : List ℕ → List Command
taking [] = []
taking (a ∷ []) = []
taking (a ∷ b ∷ []) = New a b ∷ Abandon a b ∷ Deliver a b ∷ Read a b ∷ []
taking (a ∷ b ∷ c ∷ []) = Prepare a b c ∷ Accept a b c ∷ []
taking (a ∷ b ∷ c ∷ d ∷ ns) = []

abbrev pub named : List ℕ → List Command → Option Command
named w cs = find (λ c. bytes_eq w (name c)) cs

abbrev pub called : List ℕ → Option (List ℕ) → Option Command
called w None = None
called w (Some ns) = named w (taking ns)

abbrev pub command_of : List (List ℕ) → Option Command
command_of [] = None
command_of (w ∷ ws) = called w (numerals ws)

-- what is gathered of the words after the name: all of them, where some command may take their numbers
abbrev pub listed : Numbers → List ℕ
listed (Two a b) = a ∷ b ∷ []
listed (Three a b c) = a ∷ b ∷ c ∷ []

abbrev pub Gathers : List (List ℕ) → Option Numbers → Type 0
Gathers ws None = (w : List ℕ) → called w (numerals ws) ≡ None
Gathers ws (Some ns) = numerals ws ≡ Some (listed ns)
