-- Looking for the highest ballot whose voters choose, one participant after another. Assumes nothing.
use Rattle.std.proofs.Common.{◌≡◌, ℕ, ◌+◌, ◌<◌, Bool, true, false, cond, List, ℤ, pos, negsuc, ◌≤ℤ◌, ◌<ℤ◌, is_some, Some, None, Option, sym, refl, ap, ◌∙◌, subst, ⊎_elim, arith, below_more}
use lib.Signed.{lt_z}
use Rattle.std.proofs.lemmas.Int.{ints}
use Rattle.std.proofs.lemmas.Bool.{eqb-true, ltb-true, and_parts, cases_Bool, both_ways}
use Rattle.kinds.specs.Meaning.{KindMeaning}
use Rattle.quorums.specs.Meaning.{RuleMeaning, RuleLaws}
use Rattle.model.specs.declared.entries.Entry.{Entry}
use Rattle.steps.specs.Rows.{same_ballot, entry_at, vote_at, value_at, voted, Choice, Shows}

pub ballot_same : (a b : ℤ) → same_ballot a b ≡ true → a ≡ b
ballot_same (pos a) (pos b) e = ap pos (eqb-true a b e)
ballot_same (pos a) (negsuc b) e = absurd (both_ways _ refl e)
ballot_same (negsuc a) (pos b) e = absurd (both_ways _ refl e)
ballot_same (negsuc a) (negsuc b) e = ap negsuc (eqb-true a b e)

-- a set that chooses has a member among the rule's participants, since it shares one with all
pub some_member : {Q : Type 0} (rule : RuleMeaning Q) → RuleLaws rule → (q : Q) (s : ℕ → Bool) → rule.chooses q s ≡ true → (j : ℕ) × (j < rule.size q) × (s j ≡ true)
some_member rule laws q s e = let both = laws.crossing q (λ _. true) s (laws.all_promise q (λ _. true) (λ _ _. refl)) e in (both.0, both.1, both.3)

pub peopled : {Q : Type 0} (rule : RuleMeaning Q) → RuleLaws rule → (q : Q) (s : ℕ → Bool) → rule.chooses q s ≡ true → (j : ℕ) × (s j ≡ true)
peopled rule laws q s e = let one = some_member rule laws q s e in (one.0, one.2)

-- what a rule says of a set it says of any with the same members
pub asked : (chooses : (ℕ → Bool) → Bool) (s t : ℕ → Bool) (answer x : Bool) → ((j : ℕ) → s j ≡ t j) → answer ≡ chooses s → answer ≡ x → chooses t ≡ x
asked chooses s t answer x same says is = let sets : s ≡ t = λ k j. same j k in ap chooses (sym sets) ∙ sym says ∙ is

-- what a kind says of the code of entry i is the value there
pub valued : {V : Type 0} (m : KindMeaning V) (entries : List Entry) (i : ℕ) (e : Entry) (answer x : Option V)
    → e ≡ entry_at entries i → answer ≡ m.value e.code → answer ≡ x → value_at m entries i ≡ x
valued m entries i e answer x same says is = ap (λ e'. m.value e'.code) (sym same) ∙ sym says ∙ is

-- the ballot of a choice, or none
abbrev pub top : {V : Type 0} → Option (ℤ × V) → ℤ
top None = negsuc 0
top (Some (b, v)) = b

module _ {V : Type 0} (m : KindMeaning V) (chooses : (ℕ → Bool) → Bool) (entries : List Entry) (n : ℕ) where
  -- no ballot above top has voters that choose, among the votes of the first i
  abbrev Passed : ℕ → ℤ → Type 0
  Passed i top = (j : ℕ) → j < i → top <ℤ vote_at m entries j → chooses (voted m entries n (vote_at m entries j)) ≡ false

  -- nor among all ballots
  abbrev Highest : ℤ → Type 0
  Highest top = (a : ℤ) → top <ℤ a → chooses (voted m entries n a) ≡ false

  -- what the first i show: a ballot that is the choice unless a later one is higher
  abbrev pub Sofar : ℕ → Option (ℤ × V) → Type 0
  Sofar i None = Passed i (negsuc 0)
  Sofar i (Some (b, v)) = (pos 0 ≤ℤ b) × (Highest b → Choice m chooses entries n b v) × Passed i b

  -- where every set that chooses has a member, who passed all votes passed all ballots
  passed_all : ((s : ℕ → Bool) → chooses s ≡ true → (j : ℕ) × (s j ≡ true)) → (b : ℤ) → Passed n b → Highest b
  passed_all member_of b passed a above = ⊎_elim chosen (λ e. e) (cases_Bool (chooses (voted m entries n a)))
    where
      chosen : chooses (voted m entries n a) ≡ true → chooses (voted m entries n a) ≡ false
      chosen e =
          let some = member_of (voted m entries n a) e in
          let parts = and_parts _ _ some.1 in
          let is : vote_at m entries some.0 ≡ a = ballot_same _ _ parts.1 in
          ap (λ b. chooses (voted m entries n b)) (sym is) ∙ passed some.0 (ltb-true _ _ parts.0) (omega (arith, ints))

  pub sofar_all : ((s : ℕ → Bool) → chooses s ≡ true → (j : ℕ) × (s j ≡ true)) → (i : ℕ) (r : Option (ℤ × V)) → i ≡ n → Sofar i r
      → Shows m chooses entries n r
  sofar_all member_of i r all s = shows r (subst (λ k. Sofar k r) all s)
    where
      shows : (r : Option (ℤ × V)) → Sofar n r → Shows m chooses entries n r
      shows None s = λ a ballot. passed_all member_of (negsuc 0) s a (omega (arith, ints))
      shows (Some (b, v)) s = s.1 (passed_all member_of b s.2)

  sofar_passed : (i : ℕ) (r : Option (ℤ × V)) → Sofar i r → (negsuc 0 ≤ℤ top r) × Passed i (top r)
  sofar_passed i None s = (omega (arith, ints), s)
  sofar_passed i (Some (b, v)) s = (omega (arith, ints, s.0), s.2)

  leaves : (i : ℕ) (r : Option (ℤ × V)) → Sofar i r → Passed (i + 1) (top r) → Sofar (i + 1) r
  leaves i None s passed = passed
  leaves i (Some (b, v)) s passed = (s.0, s.1, passed)

  -- a vote without a value is none, and changes nothing
  pub sofar_voteless : (i : ℕ) (r : Option (ℤ × V)) → Sofar i r → value_at m entries i ≡ None → Sofar (i + 1) r
  sofar_voteless i r s nothing =
      let none : vote_at m entries i ≡ negsuc 0 = ap (λ o. cond (is_some o) (entry_at entries i).vote (negsuc 0)) nothing in
      let passed = sofar_passed i r s in
      leaves i r s (below_more _ _ passed.1 (λ above. absurd (omega (arith, ints, passed.0))))

  module _ (i : ℕ) (r new : Option (ℤ × V)) (s : Sofar i r) (e : Entry) (v : V) (vote above : ℤ) (is : e ≡ entry_at entries i) (votes : vote ≡ e.vote) (tops : above ≡ top r)
      (value : m.value e.code ≡ Some v) where
    valued_here : value_at m entries i ≡ Some v
    valued_here = valued m entries i e (Some v) (Some v) is (sym value) refl

    counts : vote ≡ vote_at m entries i
    counts = votes ∙ ap (λ e'. e'.vote) is ∙ sym (ap (λ o. cond (is_some o) (entry_at entries i).vote (negsuc 0)) valued_here)

    -- nor does one that is not higher, or whose voters do not choose
    pub sofar_keeps : new ≡ r → (lt_z above vote ≡ true → chooses (voted m entries n vote) ≡ false) → Sofar (i + 1) new
    sofar_keeps same fails =
        let here : top r <ℤ vote_at m entries i → chooses (voted m entries n (vote_at m entries i)) ≡ false = rw counts at fails' in
        rw same (leaves i r s (below_more _ _ (sofar_passed i r s).1 here))
      where
        fails' : top r <ℤ vote → chooses (voted m entries n vote) ≡ false
        fails' up = fails (grind (arith, ints))

    -- a higher vote whose voters choose is the choice so far
    pub sofar_takes : new ≡ Some (vote, v) → i < n → lt_z above vote ≡ true → chooses (voted m entries n vote) ≡ true → Sofar (i + 1) new
    sofar_takes taken within up chosen =
        let low = (sofar_passed i r s).0 in
        let passed = (sofar_passed i r s).1 in
        let same = counts in
        let higher : top r <ℤ vote = grind (arith, ints) in
        let choice : Highest vote → Choice m chooses entries n vote v
        = λ highest. record {
          ballot = omega (arith, ints);
          chosen = chosen;
          highest = highest;
          holder = i;
          within = within;
          votes = sym same;
          first = λ j h equal. both_ways _ (ap (λ b. chooses (voted m entries n b)) (sym equal) ∙ passed j h (omega (arith, ints))) chosen;
          value = valued_here;
        } in
        rw taken (omega (arith, ints), choice, below_more _ _ (λ j h up. passed j h (omega (arith, ints))) (λ up. absurd (omega (arith, ints))))
