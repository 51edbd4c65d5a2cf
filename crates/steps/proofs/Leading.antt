-- Looking for the highest vote, one participant after another. Assumes nothing.
use Rattle.std.proofs.Common.{◌≡◌, ℕ, ◌+◌, ◌<◌, true, false, List, ℤ, negsuc, ◌≤ℤ◌, ◌<ℤ◌, Some, None, Option, sym, ◌∙◌, subst, arith, below_more}
use lib.Signed.{lt_z}
use Rattle.std.proofs.lemmas.Int.{ints}
use Rattle.kinds.specs.Meaning.{KindMeaning}
use Rattle.model.specs.declared.entries.Entry.{Entry}
use Rattle.steps.specs.Rows.{vote_at, Leader, Nobody, Leads}

module _ {V : Type 0} (m : KindMeaning V) (entries : List Entry) where
  -- among the first i the highest vote is top, and the holder is the first to have it
  abbrev pub Ahead : ℕ → ℤ → Option ℕ → Type 0
  Ahead i top (Some h) = (vote_at m entries h ≡ top) × Leader m entries i h
  Ahead i top None = (top ≡ negsuc 0) × Nobody m entries i

  leads : (n : ℕ) (top : ℤ) (r : Option ℕ) → Ahead n top r → Leads m entries n r
  leads n top None a = a.1
  leads n top (Some k) a = a.1

  pub ahead_all : (i n : ℕ) (top : ℤ) (r : Option ℕ) → i ≡ n → Ahead i top r → Leads m entries n r
  ahead_all i n top r all a = leads n top r (subst (λ k. Ahead k top r) all a)

  -- no vote so far is above top
  ahead_under : (i : ℕ) (top : ℤ) (r : Option ℕ) → Ahead i top r → (negsuc 0 ≤ℤ top) × ((j : ℕ) → j < i → vote_at m entries j ≤ℤ top)
  ahead_under i top None a = (omega (arith, ints, a.0), λ j h. omega (arith, ints, a.0, a.1 j h))
  ahead_under i top (Some k) a = (omega (arith, ints, a.0, a.1.voted), λ j h. omega (arith, ints, a.0, a.1.highest j h))

  higher_leads : (i : ℕ) (top : ℤ) (r : Option ℕ) → Ahead i top r → top <ℤ vote_at m entries i → Leader m entries (i + 1) i
  higher_leads i top r a higher =
      let under = ahead_under i top r a in
      record {
        within = omega arith;
        voted = omega (arith, ints, under.0);
        first = λ j h. omega (arith, ints, under.1 j h);
        highest = below_more _ _ (λ j h. omega (arith, ints, under.1 j h)) (omega (arith, ints));
      }

  lower_leaves : (i : ℕ) (top : ℤ) (r : Option ℕ) → Ahead i top r → vote_at m entries i ≤ℤ top → Ahead (i + 1) top r
  lower_leaves i top None a lower = (a.0, below_more _ _ a.1 (omega (arith, ints, a.0)))
  lower_leaves i top (Some k) a lower =
      let l = a.1 in (
        a.0,
        record {
          within = omega arith;
          voted = l.voted;
          first = l.first;
          highest = below_more _ _ l.highest (omega (arith, ints, a.0));
        },
      )

  module _ (i : ℕ) (top vote newTop : ℤ) (r new : Option ℕ) (a : Ahead i top r) (is : vote ≡ vote_at m entries i) where
    -- a higher vote takes the lead
    pub ahead_takes : lt_z top vote ≡ true → newTop ≡ vote → new ≡ Some i → Ahead (i + 1) newTop new
    ahead_takes above t h =
        let higher : top <ℤ vote_at m entries i = grind (arith, ints) in
        rw h (sym (t ∙ is), higher_leads i top r a higher)

    -- any other leaves it
    pub ahead_keeps : lt_z top vote ≡ false → newTop ≡ top → new ≡ r → Ahead (i + 1) newTop new
    ahead_keeps under t h =
        let lower : vote_at m entries i ≤ℤ top = grind (arith, ints) in
        rw (t, h) (lower_leaves i top r a lower)
