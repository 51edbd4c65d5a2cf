-- What prepare and accept make is an entry. Assumes nothing.
use Rattle.std.proofs.Common.{◌≡◌, ℕ, zero, suc, ◌%◌, ◌^◌, ◌<◌, Bool, true, eqb, leb, List, [], ◌∷◌, get_or, ℤ, pos, negsuc, refl, arith, w32, SFits, to_z, of_z}
use mathlib.Core.Bool.{false≢true}
use lib.Signed.{le_z, lt_z}
use Rattle.std.proofs.lemmas.Int.{ints, to_z-of_z}
use Rattle.std.proofs.lemmas.Bool.{and_from, and_parts, or_left, lt-ltb, leb-true}
use Rattle.std.specs.List.{All}
use Rattle.std.proofs.lemmas.List.Elements.{All-head, All-tail}
use Rattle.model.proofs.Proper.{proper}
use Rattle.model.specs.Entries.{is_entry}
use Rattle.model.specs.declared.entries.Entry.{Entry}
use Rattle.steps.specs.Entries.{promising, voting}
use Rattle.machine.specs.Refusals.{owns}

-- an owned ballot is one
pub record Ballot (b : ℤ) : Type 0 where
  pub low : le_z (pos 0) b ≡ true
  pub high : le_z b (pos 16777214) ≡ true

pub owned : (n p : ℕ) (b : ℤ) → owns n p b ≡ true → Ballot b
owned n p (pos k) h = let small = leb-true k 16777214 (and_parts (leb k 16777214) (eqb (k % n) p) h).0 in record { low = grind (arith, ints); high = grind (arith, ints) }
owned n p (negsuc k) h = absurd (false≢true h)

pub promising_entry : (e : Entry) (b : ℤ) → is_entry e ≡ true → Ballot b → lt_z e.promise b ≡ true → is_entry (promising e b) ≡ true
promising_entry e b ok is above =
    let v = proper e ok in
    let within : le_z e.vote b ≡ true = grind (arith, ints) in
    and_from _ _ (and_from _ _ (and_from _ _ (and_from _ _ v.low within) is.high) (lt-ltb _ _ v.small)) v.coded

pub voting_entry : (b : ℤ) (code : ℕ) → Ballot b → code < 2 ^ 48 → is_entry (voting b code) ≡ true
voting_entry b code is small =
    let above : le_z (negsuc 0) b ≡ true = grind (arith, ints) in
    let same : le_z b b ≡ true = grind (arith, ints) in
    and_from _ _ (and_from _ _ (and_from _ _ (and_from _ _ above same) is.high) (lt-ltb _ _ small)) (or_left _ _ is.low)

pub fits : (e : Entry) → is_entry e ≡ true → SFits w32 e.promise × SFits w32 e.vote
fits e ok = let v = proper e ok in (word e.promise (grind (arith, ints)) v.high, word e.vote v.low (grind (arith, ints)))
  where
    word : (z : ℤ) → le_z (negsuc 0) z ≡ true → le_z z (pos 16777214) ≡ true → SFits w32 z
    word (pos k) low high = record { sfits = grind (arith, ints) }
    word (negsuc k) low high = record { sfits = grind (arith, ints) }

-- a comparison of two numbers in their words
pub in_words : (test : ℤ → ℤ → Bool) (x y : ℤ) → SFits w32 x → SFits w32 y → test (to_z w32 (of_z w32 x)) (to_z w32 (of_z w32 y)) ≡ test x y
in_words test x y fx fy = λ i. test (to_z-of_z w32 x fx i) (to_z-of_z w32 y fy i)

-- what is read of entries is an entry, past their end too
pub all_entries : (es : List Entry) → All (λ e. is_entry e ≡ true) es → (i : ℕ) → is_entry (get_or es i (record { promise = pos 0; vote = pos 0; code = 0 })) ≡ true
all_entries [] h i = refl
all_entries (e ∷ es) h zero = All-head (λ e. is_entry e ≡ true) e es h
all_entries (e ∷ es) h (suc i) = all_entries es (All-tail (λ e. is_entry e ≡ true) e es h) i
