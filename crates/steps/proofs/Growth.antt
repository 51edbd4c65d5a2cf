-- What a step makes of an entry never shows less than before. Assumes nothing.
use Rattle.std.proofs.Common.{◌≡◌, Bool, true, cond, pos, ◌≤ℤ◌, arith}
use lib.Signed.{lt_z, le_z}
use Rattle.std.specs.Int.{int_max}
use Rattle.std.proofs.lemmas.Int.{ints, clamps}
use Rattle.std.proofs.lemmas.Bool.{and_from, cond_both, lt-ltb}
use Rattle.model.proofs.Proper.{Proper, proper}
use Rattle.model.specs.Entries.{is_entry}
use Rattle.model.specs.declared.entries.Entry.{Entry}
use Rattle.steps.specs.Entries.{seen, adopted}

pub seen_promise_grows : (view s : Entry) → view.promise ≤ℤ (seen view s).promise
seen_promise_grows view s = omega (arith, ints, clamps)

pub seen_vote_grows : (view s : Entry) → view.vote ≤ℤ (seen view s).vote
seen_vote_grows view s = grind (arith, ints)

pub adopted_promise_grows : (own s : Entry) → own.promise ≤ℤ (adopted own s).promise
adopted_promise_grows own s = omega (arith, ints, clamps)

-- the vote of an entry is at most its promise, and a vote is taken over only at or above that
pub adopted_vote_grows : (own s : Entry) → is_entry own ≡ true → own.vote ≤ℤ (adopted own s).vote
adopted_vote_grows own s e = grind (arith, ints)

-- the larger promise of two entries with the vote and the code of either is an entry
either_vote : (a b : Entry) (t : Bool) → is_entry a ≡ true → is_entry b ≡ true
    → is_entry (record { promise = int_max a.promise b.promise; vote = (cond t b a).vote; code = (cond t b a).code }) ≡ true
either_vote a b t e f =
    let p = proper a e in
    let q = proper b f in
    let v = cond_both t b a Proper (λ _. q) (λ _. p) in
    let within : le_z (cond t b a).vote (int_max a.promise b.promise) ≡ true
    = cond_both t b a (λ x. le_z x.vote (int_max a.promise b.promise) ≡ true) (λ _. grind (arith, ints)) (λ _. grind (arith, ints)) in
    let high : le_z (int_max a.promise b.promise) (pos 16777214) ≡ true = grind (arith, ints) in
    and_from _ _ (and_from _ _ (and_from _ _ (and_from _ _ v.low within) high) (lt-ltb _ _ v.small)) v.coded

pub seen_entry : (view s : Entry) → is_entry view ≡ true → is_entry s ≡ true → is_entry (seen view s) ≡ true
seen_entry view s = either_vote view s (lt_z view.vote s.vote)

pub adopted_entry : (own s : Entry) → is_entry own ≡ true → is_entry s ≡ true → is_entry (adopted own s) ≡ true
adopted_entry own s = either_vote own s (le_z own.promise s.vote)
