-- What every kept ledger shows, whatever its rule. Assumes nothing.
use Rattle.std.specs.Prelude.{◌≡◌, ℕ, ◌<◌, Bool, true, List, ℤ, pos, ◌≤ℤ◌}
use Rattle.std.specs.List.{Contains}
use Rattle.model.specs.declared.entries.Entry.{Entry}
use Rattle.quorums.specs.Meaning.{RuleMeaning}
use Rattle.ledger.specs.Ledgers.{Ledger, latest, Past, Cast, Onward}
use Rattle.ledger.specs.Growth.{PastRow, Kept}

module _ {Q : Type 0} (m : RuleMeaning Q) (q : Q) where
  -- a set that suffices to choose, each of whose members the row shows with vote b
  pub record Chosen (row : ℕ → Entry) (b : ℤ) : Type 0 where
    pub set : ℕ → Bool
    pub suffices : m.chooses q set ≡ true
    pub vote : (i : ℕ) → i < m.size q → set i ≡ true → (row i).vote ≡ b

  -- entries that their owners held show ballot b as chosen, and somebody's vote in it is for code v
  pub record Shown (L : Ledger) (row : ℕ → Entry) (b : ℤ) (v : ℕ) : Type 0 where
    pub past : PastRow L (m.size q) row
    pub ballot : pos 0 ≤ℤ b
    pub chosen : Chosen row b
    pub holder : ℕ
    pub within : holder < m.size q
    pub votes : (row holder).vote ≡ b
    pub coded : (row holder).code ≡ v

  -- whatever two rows show as chosen, at a moment and at a later one, is the same
  abbrev pub Agreement : Type 0
  Agreement = (codes : List ℕ) (L M : Ledger) (r s : ℕ → Entry) (b c : ℤ) (v w : ℕ)
      → Kept m q (Contains codes) M → Onward L M → Shown L r b v → Shown M s c w → v ≡ w

  -- every vote is for a code that was handed in
  abbrev pub Handed : Type 0
  Handed = (codes : List ℕ) (L : Ledger) (a : ℕ) (b : ℤ) (v : ℕ) → Kept m q (Contains codes) L → Cast L a b v → Contains codes v

  -- nothing that can still be shown as an owner's entry is ahead of its latest one
  abbrev pub NeverAhead : Type 0
  NeverAhead = (codes : List ℕ) (L : Ledger) (a : ℕ) (e : Entry) → Kept m q (Contains codes) L → Past L a e
      → (e.promise ≤ℤ (latest L a).promise) × (e.vote ≤ℤ (latest L a).vote)

  -- once all of these voted for v in ballot b, no vote from b on is for another code
  abbrev pub Settled : (ℕ → Bool) → Type 0
  Settled voters = (codes : List ℕ) (L : Ledger) (a : ℕ) (b c : ℤ) (v w : ℕ)
      → Kept m q (Contains codes) L → ((i : ℕ) → i < m.size q → voters i ≡ true → Cast L i b v) → Cast L a c w → b ≤ℤ c → v ≡ w
