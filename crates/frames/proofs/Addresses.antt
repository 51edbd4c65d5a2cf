-- Whom a frame can go to: an ack to one other participant is well addressed, and no frame goes to its sender. Assumes nothing.
use Rattle.std.proofs.Common.{◌≡◌, ℕ, zero, suc, ◌<◌, ◌≤◌, Bool, true, false, not, ◌&&◌, ◌||◌, eqb, ltb, sym, refl, ap, ◌∙◌, subst, arith, eq-eqb, eqb-true}
use lib.Count.{ones}
use Rattle.std.proofs.lemmas.Bool.{and_parts, and_from, not_from_false, lt-ltb, ne_eqb}
use Rattle.std.proofs.lemmas.Bool.Decides.{Decides-below_and}
use Rattle.model.specs.Sets.{member, all_but, single}
use Rattle.model.proofs.Changes.{member-and}
use Rattle.model.proofs.Masks.{member-all_but}
use Rattle.frames.specs.declared.sort.Sort.{Sort}
use Rattle.frames.specs.declared.sort.Sort.TheVariants.{Prepare, Accept, Ack}
use Rattle.frames.specs.Sorts.{well_addressed}

abbrev every : (ℕ → Bool) → ℕ → Bool
every test zero = true
every test (suc k) = test k && every test k

every_at : (test : ℕ → Bool) (n : ℕ) → every test n ≡ true → (i : ℕ) → i < n → test i ≡ true
every_at test n is = (Decides-below_and test (λ k. test k ≡ true) (every test) (λ k. ((λ e. e), (λ e. e))) refl (λ _. refl) n).0 is

other_two : ℕ → ℕ → ℕ → Bool
other_two n from to = ltb from n && (ltb to n && not (eqb to from))

abbrev fits : ℕ → ℕ → ℕ → Bool
fits n from to = not (other_two n from to) || well_addressed Ack n from (single to)

abbrev fits_from : ℕ → ℕ → Bool
fits_from n from = every (fits n from) 8

abbrev fits_all : ℕ → Bool
fits_all n = every (fits_from n) 8

-- the few cases, all computed
computed : every fits_all 8 ≡ true
unfolding other_two ones
computed = refl

wins : (t w : Bool) → t ≡ true → (not t || w) ≡ true → w ≡ true
wins true w is h = h
wins false w is h = cc

pub ack_addressed : (n from to : ℕ) → n ≤ 7 → from < n → to < n → (to ≡ from → ⊥) → well_addressed Ack n from (single to) ≡ true
unfolding other_two
ack_addressed n from to few a b other =
    wins (other_two n from to) _ (and_from _ _ (lt-ltb from n a) (and_from _ _ (lt-ltb to n b) (not_from_false _ (ne_eqb to from other))))
    (every_at (fits n from) 8 (every_at (fits_from n) 8 (every_at fits_all 8 computed n (omega arith)) from (omega arith)) to (omega arith))

-- nobody is among all but itself
out_of : (n sender q : ℕ) → member (all_but n sender) q ≡ true → q ≡ sender → ⊥
out_of n sender q is same =
    let apart : not (eqb q sender) ≡ true = (and_parts (ltb q n && ltb q 8) (not (eqb q sender)) (sym (member-all_but n sender q) ∙ is)).1 in
    let met : eqb q sender ≡ true = eq-eqb q sender same in
    let z : ◌≡◌ {A = Bool} false true = ap not (sym met) ∙ apart in
    grind arith

-- a frame is never addressed to its sender
pub not_to_sender : (sort : Sort) (n sender to q : ℕ) → well_addressed sort n sender to ≡ true → member to q ≡ true → q ≡ sender → ⊥
not_to_sender Prepare n sender to q ok for same = out_of n sender q (subst (λ m. member m q ≡ true) (eqb-true _ _ ok) for) same
not_to_sender Accept n sender to q ok for same = out_of n sender q (subst (λ m. member m q ≡ true) (eqb-true _ _ ok) for) same
not_to_sender Ack n sender to q ok for same =
    let cut = eqb-true _ _ (and_parts _ _ ok).0 in
    out_of n sender q (and_parts _ _ (sym (member-and to (all_but n sender) q) ∙ ap (λ m. member m q) cut ∙ for)).1 same
