-- What a participant reads off its row, in the words of the ledger. Assumes nothing.
use Rattle.std.proofs.Common.{◌≡◌, ℕ, Bool, true, cond, List, ℤ, pos, negsuc, ◌≤ℤ◌, is_some, Some, sym, refl, ap, ◌∙◌, subst, inl, inr, arith}
use Rattle.std.proofs.lemmas.Int.{ints, by_lt_z}
use Rattle.std.proofs.lemmas.Bool.{and_parts, cond_both}
use Rattle.kinds.specs.Meaning.{KindMeaning, KindLaws}
use Rattle.model.specs.declared.entries.Entry.{Entry}
use Rattle.quorums.specs.Meaning.{RuleMeaning, RuleLaws}
use Rattle.steps.specs.Rows.{entry_at, promised, vote_of, vote_at, voted, Carries, Choice}
use Rattle.steps.proofs.Choosing.{ballot_same}
use Rattle.ledger.specs.Ledgers.{Ledger, Past, Onward}
use Rattle.ledger.specs.Growth.{PastRow, Promised, Carried, Kept}
use Rattle.ledger.specs.Agreement.{Shown}
use Rattle.ledger.proofs.Laws.{past_cast, past_formed, cast_handed, shown_agree, shown_handed, shown_onward}

-- a vote that counts is a vote
counted_votes : {V : Type 0} (k : KindMeaning V) (e : Entry) (b : ℤ) → pos 0 ≤ℤ b → vote_of k e ≡ b → e.vote ≡ b
counted_votes k e b ballot =
    cond_both (is_some (k.value e.code)) e.vote (negsuc 0) (λ v. v ≡ b → e.vote ≡ b) (λ _ is. is) (λ _ is. absurd (omega (arith, ints)))

module _ {Q : Type 0} {m : RuleMeaning Q} {q : Q} where
  -- a set of those that the row shows with promise b, asked of the rule
  pub promised_enough : (entries : List Entry) (k : ℕ) (b : ℤ) (set : ℕ → Bool) → ((i : ℕ) → set i ≡ promised entries k b i) → m.promises q set ≡ true
      → Promised m q (entry_at entries) b
  promised_enough entries k b set same suffices =
      record {
        set = set;
        suffices = suffices;
        promise = λ i _ is. ballot_same (entry_at entries i).promise b (and_parts _ _ (sym (same i) ∙ is)).1;
      }

  module _ {V : Type 0} (k : KindMeaning V) (values : KindLaws k) where
    -- a choice that a row of past entries shows
    pub choice_shown : {L : Ledger} {entries : List Entry} {b : ℤ} {v : V} → PastRow L (m.size q) (entry_at entries)
        → Choice k (m.chooses q) entries (m.size q) b v → Shown m q L (entry_at entries) b (k.code v)
    choice_shown {entries = entries} {b = b} {v = v} past c =
        record {
          past = past;
          ballot = c.ballot;
          chosen =
              record {
                set = voted k entries (m.size q) b;
                suffices = c.chosen;
                vote = λ i _ is. counted_votes k (entry_at entries i) b c.ballot (ballot_same (vote_at k entries i) b (and_parts _ _ is).1);
              };
          holder = c.holder;
          within = c.within;
          votes = counted_votes k (entry_at entries c.holder) b c.ballot c.votes;
          coded = sym (values.same _ v c.value);
        }

    module _ {handed : ℕ → Type 0} {L : Ledger} (kept : Kept m q handed L) where
      -- the value that a row shows as chosen was handed in
      pub choice_handed : {entries : List Entry} {b : ℤ} {v : V} → PastRow L (m.size q) (entry_at entries)
          → Choice k (m.chooses q) entries (m.size q) b v → handed (k.code v)
      choice_handed past c = shown_handed kept (choice_shown past c)

      -- two rows, one of them perhaps of an earlier moment, show the same value as chosen
      pub choices_agree : {before : Ledger} {r s : List Entry} {b c : ℤ} {v w : V} → RuleLaws m → Onward before L
          → PastRow before (m.size q) (entry_at r) → Choice k (m.chooses q) r (m.size q) b v
          → PastRow L (m.size q) (entry_at s) → Choice k (m.chooses q) s (m.size q) c w → v ≡ w
      choices_agree {v = v} {w = w} laws on past x past' y =
          let codes = shown_agree kept laws (shown_onward on (choice_shown past x)) (choice_shown past' y) in
          let there = values.back v in
          let here = values.back w in
          let is : Some v ≡ Some w = sym there ∙ ap k.value codes ∙ here in
          cc

      module _ (valued : (c : ℕ) → handed c → is_some (k.value c) ≡ true) where
        -- where every code handed in has a value, each past vote counts
        pub past_vote_counts : {a : ℕ} {e : Entry} → Past L a e → vote_of k e ≡ e.vote
        past_vote_counts {e = e} past =
            by_lt_z e.vote (pos 0)
            (λ low.
            let least = (past_formed kept past).low in
            let is : e.vote ≡ negsuc 0 = omega (arith, ints) in
            cond_both (is_some (k.value e.code)) e.vote (negsuc 0) (λ v. v ≡ e.vote) (λ _. refl) (λ _. sym is))
            (λ voted. ap (λ t. cond t e.vote (negsuc 0)) (valued e.code (cast_handed kept (past_cast past voted))))

        -- what an accept carries from a row of past entries
        pub carries_carried : {entries : List Entry} {wish v : V} → PastRow L (m.size q) (entry_at entries) → handed (k.code wish)
            → Carries k entries (m.size q) wish v → Carried m q handed (entry_at entries) (k.code v)
        carries_carried {entries} {wish} {v} past given (inl c) =
            let i = c.0 in
            let leader = c.1 in
            let own = past_vote_counts (past i leader.within) in
            let voted = leader.voted in
            inl (
              i,
              record {
                within = leader.within;
                voted = omega (arith, ints);
                highest = λ j lt. let other = past_vote_counts (past j lt) in let most = leader.highest j lt in omega (arith, ints);
              },
              sym (values.same _ v c.2),
            )
        carries_carried {entries} {wish} {v} past given (inr c) =
            inr (λ j lt. let other = past_vote_counts (past j lt) in let low = c.0 j lt in omega (arith, ints), subst (λ u. handed (k.code u)) (sym c.1) given)
