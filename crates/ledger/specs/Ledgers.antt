-- The ledger of one cell: every entry that a participant ever came to hold for it. Assumes nothing.
use Rattle.std.specs.Prelude.{◌≡◌, ℕ, cond, ◌⊎◌, ℤ, pos, ◌≤ℤ◌, ◌==◌}
use Rattle.model.specs.Entries.{none}
use Rattle.model.specs.declared.entries.Entry.{Entry}

-- the newest entry with its owner, over those before it
pub data Ledger : Type 0 where
  empty : Ledger
  saved : Ledger → ℕ → Entry → Ledger

-- the owner's entry now
abbrev pub latest : Ledger → ℕ → Entry
latest empty a = none
latest (saved L o e) a = cond (a == o) e (latest L a)

-- the owner came to hold this entry
pub data Held : Ledger → ℕ → Entry → Type 0 where
  newest : {L : Ledger} {a : ℕ} {e : Entry} → Held (saved L a e) a e
  older : {L : Ledger} {o a : ℕ} {f e : Entry} → Held L a e → Held (saved L o f) a e

-- what can still be shown as the owner's entry: none, or one that it held
abbrev pub Past : Ledger → ℕ → Entry → Type 0
Past L a e = (e ≡ none) ⊎ Held L a e

-- the owner voted in ballot b, for code v
pub record Cast (L : Ledger) (a : ℕ) (b : ℤ) (v : ℕ) : Type 0 where
  pub entry : Entry
  pub held : Held L a entry
  pub ballot : pos 0 ≤ℤ b
  pub votes : entry.vote ≡ b
  pub coded : entry.code ≡ v

-- the first ledger is the second at an earlier moment
pub data Onward (L : Ledger) : Ledger → Type 0 where
  still : Onward L L
  onward : {M : Ledger} {o : ℕ} {f : Entry} → Onward L M → Onward L (saved M o f)
