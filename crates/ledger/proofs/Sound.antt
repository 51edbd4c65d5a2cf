-- What stays true of a ledger however it grows. Assumes nothing.
use Rattle.std.proofs.Common.{◌≡◌, ℕ, ◌<◌, Bool, true, ◌⊎◌, ℤ, pos, ◌≤ℤ◌, ◌<ℤ◌, sym, refl, ap, ◌∙◌, subst, inl, inr, ⊎_elim, arith}
use Rattle.std.proofs.lemmas.Int.{ints, by_lt_z}
use Rattle.model.specs.Entries.{none}
use Rattle.model.specs.declared.entries.Entry.{Entry}
use Rattle.quorums.specs.Meaning.{RuleMeaning}
use Rattle.ledger.specs.Ledgers.{Ledger, empty, saved, latest, Held, newest, older, Past, Cast, still, onward}
use Rattle.ledger.specs.Growth.{owner, Accepts, Carried, Kept, fresh, more}
use Rattle.ledger.proofs.Histories.{past_grows, cast_onward, latest_newest, latest_past, held_if_voted, Under, under_itself, under_further, Formed, none_formed, latest_grows}
use Rattle.ledger.proofs.Sources.{Source, voteless, echoed, accepted, Step, growth_step}

-- participant i was past ballot b without having voted in it
pub record Passed (L : Ledger) (i : ℕ) (b : ℤ) : Type 0 where
  pub entry : Entry
  pub past : Past L i entry
  pub under : entry.vote <ℤ b
  pub over : b <ℤ entry.promise

module _ {Q : Type 0} (m : RuleMeaning Q) (q : Q) where
  -- a set that suffices to promise, each of whose members was past ballot b without having voted in it
  pub record Barred (L : Ledger) (b : ℤ) : Type 0 where
    pub set : ℕ → Bool
    pub suffices : m.promises q set ≡ true
    pub passed : (i : ℕ) → i < m.size q → set i ≡ true → Passed L i b

  -- nothing but code v can be chosen in ballot b
  abbrev pub Safe : Ledger → ℤ → ℕ → Type 0
  Safe L b v = ((i : ℕ) × Cast L i b v) ⊎ Barred L b

  safe_grows : {L : Ledger} {o : ℕ} {x : Entry} (b : ℤ) (v : ℕ) → Safe L b v → Safe (saved L o x) b v
  safe_grows b v (inl c) = inl (c.0, cast_onward (onward still) c.1)
  safe_grows b v (inr s) =
      inr (record {
        set = s.set;
        suffices = s.suffices;
        passed = λ i lt is. let p = s.passed i lt is in record { entry = p.entry; past = past_grows p.past; under = p.under; over = p.over };
      })

  module _ (handed : ℕ → Type 0) where
    pub record Sound (L : Ledger) : Type 0 where
      pub formed : {a : ℕ} {e : Entry} → Held L a e → Formed e
      pub highest : {a : ℕ} {e : Entry} → Held L a e → Under e (latest L a)
      pub in_line : {a c : ℕ} {e f : Entry} → Held L a e → Held L c f → a ≡ c → Under e f ⊎ Under f e
      pub owner_first : {a : ℕ} {e : Entry} → Held L a e → pos 0 ≤ℤ e.vote → e.vote ≤ℤ (latest L (owner (m.size q) e.vote)).vote
      pub one_code : {a c : ℕ} {e f : Entry} → Held L a e → Held L c f → e.vote ≡ f.vote → e.code ≡ f.code
      pub gap : {a c : ℕ} {e f : Entry} → Held L a e → Held L c f → a ≡ c → pos 0 ≤ℤ f.vote → (f.vote ≤ℤ e.vote) ⊎ (e.promise ≤ℤ f.vote)
      pub safe : {a : ℕ} {e : Entry} → Held L a e → (b : ℤ) → pos 0 ≤ℤ b → b <ℤ e.vote → Safe L b e.code
      pub was_handed : {a : ℕ} {e : Entry} → Held L a e → pos 0 ≤ℤ e.vote → handed e.code

    nothing_held : {A : Type 0} {a : ℕ} {e : Entry} → Held empty a e → A
    nothing_held h = elim h [ ]

    empty_sound : Sound empty
    empty_sound =
        record {
          formed = nothing_held;
          highest = nothing_held;
          in_line = nothing_held;
          owner_first = nothing_held;
          one_code = nothing_held;
          gap = nothing_held;
          safe = nothing_held;
          was_handed = nothing_held;
        }

    module _ {L : Ledger} {o : ℕ} {x : Entry} (S : Sound L) (step : Step m q handed L o x) where
      abbrev M : Ledger
      M = saved L o x

      latest_formed : Formed (latest L o)
      latest_formed = ⊎_elim (none_formed (latest L o)) S.formed (latest_past L o)

      -- what o held before is under its latest entry
      beneath : {a : ℕ} {e : Entry} → Held L a e → a ≡ o → Under e (latest L o)
      beneath {e = e} h is = subst (λ k. Under e (latest L k)) is (S.highest h)

      before : {a : ℕ} {e : Entry} → Held L a e → a ≡ o → Under e x
      before h is = under_further (beneath h is) step.rises

      formed_more : {a : ℕ} {e : Entry} → Held M a e → Formed e
      formed_more newest = step.formed
      formed_more (older h) = S.formed h

      highest_more : {a : ℕ} {e : Entry} → Held M a e → Under e (latest M a)
      highest_more newest = rw (latest_newest L o x) (under_itself x)
      highest_more {a} (older h) = under_further (S.highest h) (latest_grows L o x step.rises a)

      in_line_more : {a c : ℕ} {e f : Entry} → Held M a e → Held M c f → a ≡ c → Under e f ⊎ Under f e
      in_line_more newest newest is = inl (under_itself x)
      in_line_more newest (older k) is = inr (before k (sym is))
      in_line_more (older h) newest is = inl (before h is)
      in_line_more (older h) (older k) is = S.in_line h k is

      reaches : (b : ℤ) (p : ℕ) → b ≤ℤ (latest L p).vote → b ≤ℤ (latest M p).vote
      reaches b p low = let up = latest_grows L o x step.rises p in omega (arith, ints)

      owner_first_more : {a : ℕ} {e : Entry} → Held M a e → pos 0 ≤ℤ e.vote → e.vote ≤ℤ (latest M (owner (m.size q) e.vote)).vote
      owner_first_more (older {e = e} h) voted = reaches e.vote _ (S.owner_first h voted)
      owner_first_more newest voted = go step.source
        where
          go : Source m q handed L o x → x.vote ≤ℤ (latest M (owner (m.size q) x.vote)).vote
          go (voteless low) = absurd (omega (arith, ints))
          go (echoed y) =
              subst (λ b. b ≤ℤ (latest M (owner (m.size q) b)).vote) (sym y.vote_is) (reaches y.entry.vote _ (S.owner_first y.held y.voted))
          go (accepted y) =
              let vote = ap (λ e. e.vote) y.becomes in
              subst (λ p. x.vote ≤ℤ (latest M p).vote) (sym (ap (owner (m.size q)) vote ∙ y.own)) (rw (latest_newest L o x) (omega (arith, ints)))

      -- nobody has voted in a ballot before its owner
      uncast : {c : ℕ} {f : Entry} → Accepts m q handed L o x → Held L c f → x.vote ≡ f.vote → ⊥
      uncast {f = f} y k is =
          let vote = ap (λ e. e.vote) y.becomes in
          let unvoted = y.unvoted in
          let low = latest_formed.low in
          let reach = S.owner_first k (omega (arith, ints)) in
          let own : (latest L (owner (m.size q) f.vote)).vote ≡ (latest L o).vote
          = ap (λ p. (latest L p).vote) (ap (owner (m.size q)) (sym is ∙ vote) ∙ y.own) in
          omega (arith, ints)

      one_code_new : {c : ℕ} {f : Entry} → Held L c f → x.vote ≡ f.vote → x.code ≡ f.code
      one_code_new {f = f} k is = go step.source
        where
          go : Source m q handed L o x → x.code ≡ f.code
          go (voteless low) = step.formed.coded low ∙ sym ((S.formed k).coded (omega (arith, ints)))
          go (echoed y) = y.code_is ∙ S.one_code y.held k (sym y.vote_is ∙ is)
          go (accepted y) = absurd (uncast y k is)

      one_code_more : {a c : ℕ} {e f : Entry} → Held M a e → Held M c f → e.vote ≡ f.vote → e.code ≡ f.code
      one_code_more newest newest is = refl
      one_code_more newest (older k) is = one_code_new k is
      one_code_more (older h) newest is = sym (one_code_new h (sym is))
      one_code_more (older h) (older k) is = S.one_code h k is

      gap_new : {a : ℕ} {e : Entry} → Held L a e → a ≡ o → pos 0 ≤ℤ x.vote → (x.vote ≤ℤ e.vote) ⊎ (e.promise ≤ℤ x.vote)
      gap_new {e = e} h is voted = go step.source
        where
          go : Source m q handed L o x → (x.vote ≤ℤ e.vote) ⊎ (e.promise ≤ℤ x.vote)
          go (voteless low) = absurd (omega (arith, ints))
          go (echoed y) =
              subst (λ b. (b ≤ℤ e.vote) ⊎ (e.promise ≤ℤ b)) (sym y.vote_is)
              (⊎_elim (λ own. S.gap h y.held (is ∙ sym own) y.voted) (λ over. let u = beneath h is in inr (omega (arith, ints))) y.why)
          go (accepted y) =
              let vote = ap (λ e. e.vote) y.becomes in
              let promised = y.promised in
              let u = beneath h is in
              inr (omega (arith, ints))

      gap_more : {a c : ℕ} {e f : Entry} → Held M a e → Held M c f → a ≡ c → pos 0 ≤ℤ f.vote → (f.vote ≤ℤ e.vote) ⊎ (e.promise ≤ℤ f.vote)
      gap_more newest newest is voted = inl (omega (arith, ints))
      gap_more newest (older k) is voted = inl (before k (sym is)).vote
      gap_more (older h) newest is voted = gap_new h is voted
      gap_more (older h) (older k) is voted = S.gap h k is voted

      module _ (y : Accepts m q handed L o x) where
        vote_is : x.vote ≡ y.ballot
        vote_is = ap (λ e. e.vote) y.becomes

        code_is : x.code ≡ y.code
        code_is = ap (λ e. e.code) y.becomes

        -- those who promised are past every lower ballot that none of the row voted in
        barred : (b : ℤ) → b <ℤ x.vote → ((j : ℕ) → j < m.size q → (y.row j).vote <ℤ b) → Barred L b
        barred b below under =
            record {
              set = y.enough.set;
              suffices = y.enough.suffices;
              passed = λ i lt is.
                  let promise = y.enough.promise i lt is in
                  let vote = vote_is in
                  record { entry = y.row i; past = y.past i lt; under = under i lt; over = omega (arith, ints) };
            }

        carried_safe : (b : ℤ) → pos 0 ≤ℤ b → b <ℤ x.vote → Carried m q handed y.row y.code → Safe L b y.code
        carried_safe b low below (inl c) =
            let i = c.0 in
            let high = c.1 in
            let held = held_if_voted (y.past i high.within) high.voted in
            by_lt_z b (y.row i).vote (λ less. subst (Safe L b) c.2 (S.safe held b low less))
            (λ least.
            by_lt_z (y.row i).vote b (λ above. inr (barred b below (λ j lt. let top = high.highest j lt in omega (arith, ints))))
            (λ most. inl (i, record { entry = y.row i; held = held; ballot = low; votes = omega (arith, ints); coded = c.2 })))
        carried_safe b low below (inr c) = inr (barred b below (λ j lt. let none = c.0 j lt in omega (arith, ints)))

        carried_handed : Carried m q handed y.row y.code → handed y.code
        carried_handed (inl c) =
            let high = c.1 in
            subst handed c.2 (S.was_handed (held_if_voted (y.past c.0 high.within) high.voted) high.voted)
        carried_handed (inr c) = c.1

      safe_more : {a : ℕ} {e : Entry} → Held M a e → (b : ℤ) → pos 0 ≤ℤ b → b <ℤ e.vote → Safe M b e.code
      safe_more (older {e = e} h) b low below = safe_grows b e.code (S.safe h b low below)
      safe_more newest b low below = go step.source
        where
          go : Source m q handed L o x → Safe M b x.code
          go (voteless none) = absurd (omega (arith, ints))
          go (echoed y) = let vote = y.vote_is in safe_grows b x.code (subst (Safe L b) (sym y.code_is) (S.safe y.held b low (omega (arith, ints))))
          go (accepted y) = safe_grows b x.code (subst (Safe L b) (sym (code_is y)) (carried_safe y b low below y.carried))

      handed_more : {a : ℕ} {e : Entry} → Held M a e → pos 0 ≤ℤ e.vote → handed e.code
      handed_more (older h) voted = S.was_handed h voted
      handed_more newest voted = go step.source
        where
          go : Source m q handed L o x → handed x.code
          go (voteless low) = absurd (omega (arith, ints))
          go (echoed y) = subst handed (sym y.code_is) (S.was_handed y.held y.voted)
          go (accepted y) = subst handed (sym (code_is y)) (carried_handed y y.carried)

      grown_sound : Sound M
      grown_sound =
          record {
            formed = formed_more;
            highest = highest_more;
            in_line = in_line_more;
            owner_first = owner_first_more;
            one_code = one_code_more;
            gap = gap_more;
            safe = safe_more;
            was_handed = handed_more;
          }

    pub kept_sound : {L : Ledger} → Kept m q handed L → Sound L
    kept_sound fresh = empty_sound
    kept_sound (more {L = L} {a = a} {e = e} kept grows) =
        let S = kept_sound kept in
        grown_sound S (growth_step m q handed L (λ _ f. ⊎_elim (none_formed f) S.formed) a e grows)
