-- What is known of the numbers of an entry. Assumes nothing.
use Rattle.std.proofs.Common.{◌≡◌, ◌^◌, ◌<◌, Bool, true, false, cond, ◌||◌, eqb, pos, negsuc, refl, ap, ltb-true}
use lib.Signed.{le_z}
use Rattle.std.proofs.lemmas.Bool.{and_parts}
use Rattle.model.specs.declared.entries.Entry.{Entry}
use Rattle.model.specs.Entries.{none, is_entry, clean}

pub record Proper (e : Entry) : Type 0 where
  pub low : le_z (negsuc 0) e.vote ≡ true
  pub within : le_z e.vote e.promise ≡ true
  pub high : le_z e.promise (pos 16777214) ≡ true
  pub small : e.code < 2 ^ 48
  pub coded : (le_z (pos 0) e.vote || eqb e.code 0) ≡ true

pub proper : (e : Entry) → is_entry e ≡ true → Proper e
proper e ok =
    let d = and_parts _ _ ok in
    let c = and_parts _ _ d.0 in
    let b = and_parts _ _ c.0 in
    let a = and_parts _ _ b.0 in
    record { low = a.0; within = a.1; high = b.1; small = ltb-true _ _ c.1; coded = d.1 }

-- what counts is always an entry
pub clean_is_entry : (e : Entry) → is_entry (clean e) ≡ true
clean_is_entry e = go (is_entry e) refl
  where
    go : (t : Bool) → is_entry e ≡ t → is_entry (cond t e none) ≡ true
    go true ok = ok
    go false ok = refl

-- an entry counts as itself
pub clean_same : (e : Entry) → is_entry e ≡ true → clean e ≡ e
clean_same e ok = ap (λ t. cond t e none) ok
