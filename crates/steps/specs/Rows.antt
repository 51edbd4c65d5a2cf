-- What a row shows of votes, promises and choices. Assumes nothing.
use Rattle.std.specs.Prelude.{◌≡◌, ℕ, ◌<◌, Bool, true, false, cond, ◌&&◌, ◌⊎◌, List, ℤ, pos, negsuc, ◌≤ℤ◌, ◌<ℤ◌, is_some, Some, None, Option, ◌==◌, ◌≢◌, nat_lt, slice_index_or}
use Rattle.kinds.specs.Meaning.{KindMeaning}
use Rattle.model.specs.Entries.{clean}
use Rattle.model.specs.declared.entries.Entry.{Entry}

abbrev pub same_ballot : ℤ → ℤ → Bool
same_ballot (pos a) (pos b) = a == b
same_ballot (pos a) (negsuc b) = false
same_ballot (negsuc a) (pos b) = false
same_ballot (negsuc a) (negsuc b) = a == b

-- the numbers that stand for participant i
abbrev pub numbers_at : List Entry → ℕ → Entry
numbers_at entries i = slice_index_or entries i (record { promise = pos 0; vote = pos 0; code = 0 })

-- the entry of participant i, as it counts
abbrev pub entry_at : List Entry → ℕ → Entry
entry_at entries i = clean (numbers_at entries i)

-- those of the first n that the entries show with promise b
abbrev pub promised : List Entry → ℕ → ℤ → ℕ → Bool
promised entries n b i = nat_lt i n && same_ballot (entry_at entries i).promise b

module _ {V : Type 0} (m : KindMeaning V) where
  -- the vote of an entry as it counts: none where its code has no value
  abbrev pub vote_of : Entry → ℤ
  vote_of e = cond (is_some (m.value e.code)) e.vote (negsuc 0)

  abbrev pub vote_at : List Entry → ℕ → ℤ
  vote_at entries i = vote_of (entry_at entries i)

  abbrev pub value_at : List Entry → ℕ → Option V
  value_at entries i = m.value (entry_at entries i).code

  -- participant i has the highest vote of the first n, and is the lowest-numbered that has
  pub record Leader (entries : List Entry) (n i : ℕ) : Type 0 where
    pub within : i < n
    pub voted : pos 0 ≤ℤ vote_at entries i
    pub first : (j : ℕ) → j < i → vote_at entries j <ℤ vote_at entries i
    pub highest : (j : ℕ) → j < n → vote_at entries j ≤ℤ vote_at entries i

  -- nobody of the first n voted
  abbrev pub Nobody : List Entry → ℕ → Type 0
  Nobody entries n = (j : ℕ) → j < n → vote_at entries j <ℤ pos 0

  abbrev pub Leads : List Entry → ℕ → Option ℕ → Type 0
  Leads entries n (Some i) = Leader entries n i
  Leads entries n None = Nobody entries n

  -- an accept carries the value of the highest vote, or the wish where nobody voted
  abbrev pub Carries : List Entry → ℕ → V → V → Type 0
  Carries entries n wish v = ((i : ℕ) × Leader entries n i × (value_at entries i ≡ Some v)) ⊎ (Nobody entries n × (v ≡ wish))

  -- those of the first n whose vote is b
  abbrev pub voted : List Entry → ℕ → ℤ → ℕ → Bool
  voted entries n b i = nat_lt i n && same_ballot (vote_at entries i) b

  module _ (chooses : (ℕ → Bool) → Bool) where
    -- b is the highest ballot whose voters choose, and v the value of the lowest-numbered of them
    pub record Choice (entries : List Entry) (n : ℕ) (b : ℤ) (v : V) : Type 0 where
      pub ballot : pos 0 ≤ℤ b
      pub chosen : chooses (voted entries n b) ≡ true
      pub highest : (a : ℤ) → b <ℤ a → chooses (voted entries n a) ≡ false
      pub holder : ℕ
      pub within : holder < n
      pub votes : vote_at entries holder ≡ b
      pub first : (j : ℕ) → j < holder → vote_at entries j ≢ b
      pub value : value_at entries holder ≡ Some v

    -- what a read-out shows: a choice, or nothing where no ballot's voters choose
    abbrev pub Shows : List Entry → ℕ → Option (ℤ × V) → Type 0
    Shows entries n (Some (b, v)) = Choice entries n b v
    Shows entries n None = (a : ℤ) → pos 0 ≤ℤ a → chooses (voted entries n a) ≡ false
