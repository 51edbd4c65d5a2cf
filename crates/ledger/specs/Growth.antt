-- How a ledger may grow: by prepare, accept and receive. Assumes nothing.
use Rattle.std.specs.Prelude.{◌≡◌, ℕ, ◌%◌, ◌<◌, Bool, true, ◌⊎◌, ℤ, pos, negsuc, ◌≤ℤ◌, ◌<ℤ◌}
use Rattle.model.specs.declared.entries.Entry.{Entry}
use Rattle.quorums.specs.Meaning.{RuleMeaning}
use Rattle.steps.specs.Entries.{promising, voting, adopted}
use Rattle.ledger.specs.Ledgers.{Ledger, empty, saved, latest, Past}

-- the participant of n that a ballot belongs to
abbrev pub owner : ℕ → ℤ → ℕ
owner n (pos b) = b % n
owner n (negsuc b) = 0

-- each entry of the row is one that its owner can still be shown with
abbrev pub PastRow : Ledger → ℕ → (ℕ → Entry) → Type 0
PastRow L n row = (i : ℕ) → i < n → Past L i (row i)

-- participant i has a highest vote of the row
pub record Highest (n : ℕ) (row : ℕ → Entry) (i : ℕ) : Type 0 where
  pub within : i < n
  pub voted : pos 0 ≤ℤ (row i).vote
  pub highest : (j : ℕ) → j < n → (row j).vote ≤ℤ (row i).vote

-- the row shows no vote
abbrev pub Voteless : ℕ → (ℕ → Entry) → Type 0
Voteless n row = (j : ℕ) → j < n → (row j).vote <ℤ pos 0

-- a new promise above the old one
pub record Prepares (L : Ledger) (a : ℕ) (e : Entry) : Type 0 where
  pub ballot : ℤ
  pub above : (latest L a).promise <ℤ ballot
  pub becomes : e ≡ promising (latest L a) ballot

-- what a participant was shown, taken over
pub record Receives (L : Ledger) (a : ℕ) (e : Entry) : Type 0 where
  pub sender : ℕ
  pub shown : Entry
  pub past : Past L sender shown
  pub becomes : e ≡ adopted (latest L a) shown

module _ {Q : Type 0} (m : RuleMeaning Q) (q : Q) where
  -- a set that suffices to promise, each of whose members the row shows with promise b
  pub record Promised (row : ℕ → Entry) (b : ℤ) : Type 0 where
    pub set : ℕ → Bool
    pub suffices : m.promises q set ≡ true
    pub promise : (i : ℕ) → i < m.size q → set i ≡ true → (row i).promise ≡ b

  module _ (handed : ℕ → Type 0) where
    -- the code of a highest vote of the row, or a handed one where the row shows no vote
    abbrev pub Carried : (ℕ → Entry) → ℕ → Type 0
    Carried row code = ((i : ℕ) × Highest (m.size q) row i × ((row i).code ≡ code)) ⊎ (Voteless (m.size q) row × handed code)

    -- a vote in the own ballot that was promised and not voted in, carried from a row that shows enough promises
    pub record Accepts (L : Ledger) (a : ℕ) (e : Entry) : Type 0 where
      pub ballot : ℤ
      pub own : owner (m.size q) ballot ≡ a
      pub promised : (latest L a).promise ≡ ballot
      pub unvoted : (latest L a).vote <ℤ ballot
      pub row : ℕ → Entry
      pub past : PastRow L (m.size q) row
      pub enough : Promised row ballot
      pub code : ℕ
      pub carried : Carried row code
      pub becomes : e ≡ voting ballot code

    pub data Grows (L : Ledger) (a : ℕ) (e : Entry) : Type 0 where
      prepares : Prepares L a e → Grows L a e
      accepts : Accepts L a e → Grows L a e
      receives : Receives L a e → Grows L a e

    -- grown from nothing
    pub data Kept : Ledger → Type 0 where
      fresh : Kept empty
      more : {L : Ledger} {a : ℕ} {e : Entry} → Kept L → Grows L a e → Kept (saved L a e)
