-- The three ways to grow seen as one: promise and vote rise, and a vote has a source. Assumes nothing.
use Rattle.std.proofs.Common.{◌≡◌, ℕ, Bool, true, false, cond, ◌⊎◌, pos, ◌≤ℤ◌, ◌<ℤ◌, refl, ap, ◌∙◌, inl, inr, arith}
use lib.Signed.{le_z}
use Rattle.std.specs.Int.{int_max}
use Rattle.std.proofs.lemmas.Int.{ints, clamps, by_lt_z}
use Rattle.model.specs.declared.entries.Entry.{Entry}
use Rattle.quorums.specs.Meaning.{RuleMeaning}
use Rattle.ledger.specs.Ledgers.{Ledger, latest, Held, Past}
use Rattle.ledger.specs.Growth.{Prepares, Accepts, Receives, Grows, prepares, accepts, receives}
use Rattle.ledger.proofs.Histories.{latest_past, Under, Formed}

-- the vote of x is that of an entry held before: of o's own, or at or above o's promise
pub record Echo (L : Ledger) (o : ℕ) (x : Entry) : Type 0 where
  pub voter : ℕ
  pub entry : Entry
  pub held : Held L voter entry
  pub voted : pos 0 ≤ℤ entry.vote
  pub vote_is : x.vote ≡ entry.vote
  pub code_is : x.code ≡ entry.code
  pub why : (voter ≡ o) ⊎ ((latest L o).promise ≤ℤ entry.vote)

module _ {Q : Type 0} (m : RuleMeaning Q) (q : Q) (handed : ℕ → Type 0) where
  pub data Source (L : Ledger) (o : ℕ) (x : Entry) : Type 0 where
    voteless : x.vote <ℤ pos 0 → Source L o x
    echoed : Echo L o x → Source L o x
    accepted : Accepts m q handed L o x → Source L o x

  pub record Step (L : Ledger) (o : ℕ) (x : Entry) : Type 0 where
    pub rises : Under (latest L o) x
    pub formed : Formed x
    pub source : Source L o x

  module _ (L : Ledger) (all_formed : (a : ℕ) (e : Entry) → Past L a e → Formed e) (o : ℕ) where
    old_formed : Formed (latest L o)
    old_formed = all_formed o (latest L o) (latest_past L o)

    -- a vote that was shown
    shown_source : (x : Entry) (a : ℕ) (s : Entry) → Past L a s → x.vote ≡ s.vote → x.code ≡ s.code → (a ≡ o) ⊎ ((latest L o).promise ≤ℤ s.vote)
        → Source L o x
    shown_source x a s (inl is) vote code why = let z = ap (λ e. e.vote) is in voteless (omega (arith, ints))
    shown_source x a s (inr held) vote code why =
        by_lt_z s.vote (pos 0) (λ low. voteless (omega (arith, ints)))
        (λ voted. echoed (record { voter = a; entry = s; held = held; voted = voted; vote_is = vote; code_is = code; why = why }))

    prepare_step : (x : Entry) → Prepares L o x → Step L o x
    prepare_step x p =
        let f = old_formed in
        let above = p.above in
        let promise = ap (λ e. e.promise) p.becomes in
        let vote = ap (λ e. e.vote) p.becomes in
        let code = ap (λ e. e.code) p.becomes in
        record {
          rises = record { promise = omega (arith, ints); vote = omega (arith, ints) };
          formed = record { low = omega (arith, ints); within = omega (arith, ints); coded = λ low. code ∙ f.coded (omega (arith, ints)) };
          source = shown_source x o (latest L o) (latest_past L o) vote code (inl refl);
        }

    accept_step : (x : Entry) → Accepts m q handed L o x → Step L o x
    accept_step x p =
        let f = old_formed in
        let promised = p.promised in
        let unvoted = p.unvoted in
        let promise = ap (λ e. e.promise) p.becomes in
        let vote = ap (λ e. e.vote) p.becomes in
        record {
          rises = record { promise = omega (arith, ints); vote = omega (arith, ints) };
          formed = record { low = omega (arith, ints); within = omega (arith, ints); coded = λ low. absurd (omega (arith, ints)) };
          source = accepted p;
        }

    receive_step : (x : Entry) → Receives L o x → Step L o x
    receive_step x p = go (le_z (latest L o).promise p.shown.vote) refl p.becomes
      where
        go : (t : Bool) → le_z (latest L o).promise p.shown.vote ≡ t
            → x ≡ record { promise = int_max (latest L o).promise p.shown.promise; vote = (cond t p.shown (latest L o)).vote; code = (cond t p.shown (latest L o)).code }
            → Step L o x
        go true takes is =
            let f = old_formed in
            let s = all_formed p.sender p.shown p.past in
            let promise = ap (λ e. e.promise) is in
            let vote = ap (λ e. e.vote) is in
            let code = ap (λ e. e.code) is in
            record {
              rises = record { promise = omega (arith, ints, clamps); vote = omega (arith, ints) };
              formed = record { low = omega (arith, ints); within = omega (arith, ints, clamps); coded = λ low. code ∙ s.coded (omega (arith, ints)) };
              source = shown_source x p.sender p.shown p.past vote code (inr (omega (arith, ints)));
            }
        go false leaves is =
            let f = old_formed in
            let promise = ap (λ e. e.promise) is in
            let vote = ap (λ e. e.vote) is in
            let code = ap (λ e. e.code) is in
            record {
              rises = record { promise = omega (arith, ints, clamps); vote = omega (arith, ints) };
              formed = record { low = omega (arith, ints); within = omega (arith, ints, clamps); coded = λ low. code ∙ f.coded (omega (arith, ints)) };
              source = shown_source x o (latest L o) (latest_past L o) vote code (inl refl);
            }

    pub growth_step : (x : Entry) → Grows m q handed L o x → Step L o x
    growth_step x (prepares p) = prepare_step x p
    growth_step x (accepts p) = accept_step x p
    growth_step x (receives p) = receive_step x p
