-- The laws of every kept ledger. Assumes nothing.
use Rattle.std.proofs.Common.{◌≡◌, ℕ, ◌<◌, Bool, true, false, cond, ◌⊎◌, ℤ, pos, ◌≤ℤ◌, ◌<ℤ◌, sym, refl, ap, ◌∙◌, subst, inl, inr, ⊎_elim, arith}
use lib.Signed.{lt_z}
use Rattle.std.specs.Int.{int_max}
use Rattle.std.proofs.lemmas.Int.{ints, clamps, by_lt_z}
use Rattle.std.proofs.lemmas.Bool.{cond_both}
use Rattle.model.specs.Entries.{none}
use Rattle.model.specs.declared.entries.Entry.{Entry}
use Rattle.quorums.specs.Meaning.{RuleMeaning, RuleLaws}
use Rattle.steps.specs.Entries.{seen}
use Rattle.steps.proofs.Choosing.{some_member}
use Rattle.ledger.specs.Ledgers.{Ledger, latest, Past, Cast, Onward}
use Rattle.ledger.specs.Growth.{owner, Kept}
use Rattle.ledger.specs.Agreement.{Shown}
use Rattle.ledger.proofs.Histories.{row_onward, latest_past, held_if_voted, Under, Formed, none_formed}
use Rattle.ledger.proofs.Sound.{Barred, Safe, Sound, kept_sound}

-- a vote that a past entry shows was cast
pub past_cast : {L : Ledger} {a : ℕ} {e : Entry} → Past L a e → pos 0 ≤ℤ e.vote → Cast L a e.vote e.code
past_cast {e = e} past voted = record { entry = e; held = held_if_voted past voted; ballot = voted; votes = refl; coded = refl }

-- the join of an entry with one that it is under, and with one that is under it
seen_later : (e f : Entry) → Under e f → (e.vote ≡ f.vote → e.code ≡ f.code) → seen e f ≡ f
seen_later e f u one =
    let promise : int_max e.promise f.promise ≡ f.promise = omega (arith, ints, clamps) in
    cond_both (lt_z e.vote f.vote) f e (λ x. record { promise = int_max e.promise f.promise; vote = x.vote; code = x.code } ≡ f)
    (λ _ i. record { promise = promise i; vote = f.vote; code = f.code })
    (λ is. let vote : e.vote ≡ f.vote = omega (arith, ints) in λ i. record { promise = promise i; vote = vote i; code = one vote i })

seen_earlier : (e f : Entry) → Under f e → seen e f ≡ e
seen_earlier e f u =
    let promise : int_max e.promise f.promise ≡ e.promise = omega (arith, ints, clamps) in
    let stays : lt_z e.vote f.vote ≡ false = grind (arith, ints) in
    λ i. record { promise = promise i; vote = (cond (stays i) f e).vote; code = (cond (stays i) f e).code }

module _ {Q : Type 0} {m : RuleMeaning Q} {q : Q} {handed : ℕ → Type 0} {L : Ledger} (kept : Kept m q handed L) where
  sound : Sound m q handed L
  sound = kept_sound m q handed kept

  pub past_formed : {a : ℕ} {e : Entry} → Past L a e → Formed e
  past_formed {e = e} = ⊎_elim (none_formed e) sound.formed

  none_under : {a : ℕ} {e f : Entry} → e ≡ none → Past L a f → Under e f
  none_under is past =
      let f = past_formed past in
      let promise = ap (λ x. x.promise) is in
      let vote = ap (λ x. x.vote) is in
      let low = f.low in
      let within = f.within in
      record { promise = omega (arith, ints); vote = omega (arith, ints) }

  -- growth: what an owner can be shown with is under its latest entry
  pub latest_at_least : {a : ℕ} {e : Entry} → Past L a e → Under e (latest L a)
  latest_at_least {a} (inl is) = none_under is (latest_past L a)
  latest_at_least (inr h) = sound.highest h

  -- growth: of two such entries one is under the other
  pub past_in_line : {a : ℕ} {e f : Entry} → Past L a e → Past L a f → Under e f ⊎ Under f e
  past_in_line (inl is) g = inl (none_under is g)
  past_in_line (inr h) (inl is) = inr (none_under is (inr h))
  past_in_line (inr h) (inr k) = sound.in_line h k refl

  -- one value: votes in one ballot are for one code
  pub past_one_value : {a c : ℕ} {e f : Entry} → Past L a e → Past L c f → e.vote ≡ f.vote → e.code ≡ f.code
  past_one_value {e = e} {f = f} p r is =
      by_lt_z e.vote (pos 0) (λ low. (past_formed p).coded low ∙ sym ((past_formed r).coded (omega (arith, ints))))
      (λ voted. sound.one_code (held_if_voted p voted) (held_if_voted r (omega (arith, ints))) is)

  pub one_value : {a c : ℕ} {b : ℤ} {v w : ℕ} → Cast L a b v → Cast L c b w → v ≡ w
  one_value x y = sym x.coded ∙ sound.one_code x.held y.held (x.votes ∙ sym y.votes) ∙ y.coded

  -- nobody votes in a ballot before its owner
  pub owner_first : {a : ℕ} {b : ℤ} {v : ℕ} → Cast L a b v → b ≤ℤ (latest L (owner (m.size q) b)).vote
  owner_first x =
      let low = x.ballot in
      let votes = x.votes in
      subst (λ b. b ≤ℤ (latest L (owner (m.size q) b)).vote) votes (sound.owner_first x.held (omega (arith, ints)))

  -- who voted in a ballot did so before its vote passed it, or before its promise did
  pub gap : {a : ℕ} {e : Entry} {b : ℤ} {v : ℕ} → Past L a e → Cast L a b v → (b ≤ℤ e.vote) ⊎ (e.promise ≤ℤ b)
  gap {b = b} (inl is) x =
      let promise = ap (λ e. e.promise) is in
      let low = x.ballot in
      inr (omega (arith, ints))
  gap {e = e} (inr h) x =
      let low = x.ballot in
      let votes = x.votes in
      subst (λ b. (b ≤ℤ e.vote) ⊎ (e.promise ≤ℤ b)) votes (sound.gap h x.held refl (omega (arith, ints)))

  -- below a vote no ballot chooses another code
  pub safe : {a : ℕ} {b : ℤ} {v : ℕ} → Cast L a b v → (c : ℤ) → pos 0 ≤ℤ c → c <ℤ b → Safe m q L c v
  safe x c low below = let votes = x.votes in subst (Safe m q L c) x.coded (sound.safe x.held c low (omega (arith, ints)))

  pub cast_handed : {a : ℕ} {b : ℤ} {v : ℕ} → Cast L a b v → handed v
  cast_handed x =
      let low = x.ballot in
      let votes = x.votes in
      subst handed x.coded (sound.was_handed x.held (omega (arith, ints)))

  pub shown_handed : {row : ℕ → Entry} {b : ℤ} {v : ℕ} → Shown m q L row b v → handed v
  shown_handed {row} s =
      let low = s.ballot in
      let votes = s.votes in
      let voted : pos 0 ≤ℤ (row s.holder).vote = omega (arith, ints) in
      subst handed s.coded (cast_handed (past_cast (s.past s.holder s.within) voted))

  -- the view that is made of two past entries of one owner is past
  pub merged_past : {a : ℕ} {e f : Entry} → Past L a e → Past L a f → Past L a (seen e f)
  merged_past {a} {e} {f} p r =
      ⊎_elim (λ u. subst (Past L a) (sym (seen_later e f u (past_one_value p r))) r) (λ u. subst (Past L a) (sym (seen_earlier e f u)) p) (past_in_line p r)

  module _ (laws : RuleLaws m) where
    -- once a choosing set voted for a code in ballot b, no vote from b on is for another
    pub settled : {s : ℕ → Bool} {a : ℕ} {b c : ℤ} {v w : ℕ} → m.chooses q s ≡ true
        → ((i : ℕ) → i < m.size q → s i ≡ true → Cast L i b v) → Cast L a c w → b ≤ℤ c → v ≡ w
    settled {s} {a} {b} {c} {v} {w} chosen votes x least =
        by_lt_z b c (λ below. ⊎_elim (λ y. one_value first y.1) (λ y. absurd (barrier y)) (safe x b first.ballot below))
        (λ most. let same : c ≡ b = omega (arith, ints) in one_value first (subst (λ d. Cast L a d w) same x))
      where
        first : Cast L (some_member m laws q s chosen).0 b v
        first = let j = some_member m laws q s chosen in votes j.0 j.1 j.2

        barrier : Barred m q L b → ⊥
        barrier y =
            let j = laws.crossing q y.set s y.suffices chosen in
            let p = y.passed j.0 j.1 j.2 in
            let under = p.under in
            let over = p.over in
            let sides = gap p.past (votes j.0 j.1 j.3) in
            ⊎_elim (λ l. omega (arith, ints)) (λ l. omega (arith, ints)) sides

    -- a row that shows a choice shows votes for the one code
    shown_votes : {row : ℕ → Entry} {b : ℤ} {v : ℕ} (s : Shown m q L row b v) → (i : ℕ) → i < m.size q → s.chosen.set i ≡ true → Cast L i b v
    shown_votes {row} {b} {v} s i lt is =
        let low = s.ballot in
        let vote = s.chosen.vote i lt is in
        let voted : pos 0 ≤ℤ (row i).vote = omega (arith, ints) in
        let code : (row i).code ≡ v = past_one_value (s.past i lt) (s.past s.holder s.within) (vote ∙ sym s.votes) ∙ s.coded in
        record { entry = row i; held = held_if_voted (s.past i lt) voted; ballot = low; votes = vote; coded = code }

    -- its holder's vote is one
    pub shown_cast : {row : ℕ → Entry} {b : ℤ} {v : ℕ} (s : Shown m q L row b v) → Cast L s.holder b v
    shown_cast {row} s =
        let low = s.ballot in
        let votes = s.votes in
        let voted : pos 0 ≤ℤ (row s.holder).vote = omega (arith, ints) in
        record { entry = row s.holder; held = held_if_voted (s.past s.holder s.within) voted; ballot = low; votes = votes; coded = s.coded }

    shown_settled : {r s : ℕ → Entry} {b c : ℤ} {v w : ℕ} → Shown m q L r b v → Shown m q L s c w → b ≤ℤ c → v ≡ w
    shown_settled x y = settled x.chosen.suffices (shown_votes x) (shown_cast y)

    -- chosen values agree
    pub shown_agree : {r s : ℕ → Entry} {b c : ℤ} {v w : ℕ} → Shown m q L r b v → Shown m q L s c w → v ≡ w
    shown_agree {b = b} {c = c} x y =
        by_lt_z b c (λ below. shown_settled x y (omega (arith, ints))) (λ least. sym (shown_settled y x least))

pub shown_onward : {Q : Type 0} {m : RuleMeaning Q} {q : Q} {L M : Ledger} {row : ℕ → Entry} {b : ℤ} {v : ℕ} → Onward L M → Shown m q L row b v → Shown m q M row b v
shown_onward w s =
    record {
      past = row_onward w s.past;
      ballot = s.ballot;
      chosen = s.chosen;
      holder = s.holder;
      within = s.within;
      votes = s.votes;
      coded = s.coded;
    }
