-- Marking, one by one, those of the first n that pass a test. Assumes nothing.
use Rattle.std.proofs.Common.{◌≡◌, ℕ, ◌+◌, ◌<◌, ◌≤◌, Bool, true, false, ◌&&◌, ◌||◌, eqb, ltb, sym, subst, ⊎_elim, le-ltb, lt-ltb, arith, below_more}
use Rattle.std.proofs.lemmas.Bool.{cases_lt}
use Rattle.std.proofs.lemmas.Bool.Decides.{nat_tests}
use Rattle.model.specs.Sets.{member}

-- each of the first i answers what the set says of it, and nobody else is in the set
abbrev pub Marked : (ℕ → Bool → Type 0) → ℕ → ℕ → Type 0
Marked answers i set =
    record {
      asked : (j : ℕ) → j < i → answers j (member set j);
      no_others : (j : ℕ) → i ≤ j → member set j ≡ false;
    }

module _ (answers : ℕ → Bool → Type 0) (i set : ℕ) (marked : Marked answers i set) where
  -- one more that fails is left out
  pub marked_without : answers i false → Marked answers (i + 1) set
  marked_without fails =
      record {
        asked = below_more _ _ marked.asked (subst (answers i) (sym (marked.no_others i (omega arith))) fails);
        no_others = λ j lt. marked.no_others j (omega arith);
      }

  -- and one that passes is put in
  pub marked_with : (new : ℕ) → ((j : ℕ) → member new j ≡ (member set j || eqb j i && ltb i 8)) → i < 8 → answers i true → Marked answers (i + 1) new
  marked_with new is seat passes =
      record {
        asked = below_more _ _ (λ j lt. subst (answers j) (sym (before j lt)) (marked.asked j lt)) (subst (answers i) (sym here) passes);
        no_others = λ j lt. after j lt;
      }
    where
      here : member new i ≡ true
      here = grind (arith, nat_tests)

      before : (j : ℕ) → j < i → member new j ≡ member set j
      before j lt = grind (arith, nat_tests)

      after : (j : ℕ) → i + 1 ≤ j → member new j ≡ false
      after j lt = grind (arith, nat_tests)

-- where each that is asked gives the test's answer, the set is those of the first n that pass
pub tested : (test : ℕ → Bool) (n set : ℕ) → Marked (λ j so. so ≡ test j) n set → (j : ℕ) → member set j ≡ (ltb j n && test j)
tested test n set marked j =
    ⊎_elim (λ lt. rw (lt-ltb j n lt) (marked.asked j lt)) (λ ge. rw (le-ltb j n ge) (marked.no_others j ge)) (cases_lt j n)
