-- The plain post and store of the worked runs keep the laws, and what a call does with them. Assumes nothing.
use Rattle.std.proofs.Common.{◌≡◌, ℕ, suc, ◌-◌, ◌≤◌, Bool, true, false, not, ◌&&◌, ◌||◌, eqb, ltb, List, ◌++◌, map, length, get_or, take, set, replicate, Ok, Err, filter, sym, refl, ap, ◌∙◌, subst, inr, arith}
use Rattle.std.specs.List.{remove, range_with_len, All}
use Rattle.std.proofs.lemmas.List.Elements.{All-replicate, All-from_get_or, All-take, All-drop, All-map, All-append}
use Rattle.std.proofs.lemmas.List.{length-set, get_or-set_same, get_or-set_other, get_or_past, take_at}
use Rattle.std.proofs.lemmas.Bool.{and_parts, and_from, le-leb, lt-ltb, le-ltb, ltb-true, or_left}
use Rattle.frames.specs.Layout.{Heading, Sound, laid_out}
use Rattle.frames.specs.Reading.{valued, ForUs, Spells}
use Rattle.frames.specs.declared.reader.Frame.{Frame}
use Rattle.frames.proofs.Layouts.{length-laid_out}
use Rattle.frames.proofs.ReadBack.{heading_back, entries_back, clean_all, faultless}
use Rattle.kinds.specs.Meaning.{KindMeaning}
use Rattle.model.specs.Entries.{none, is_entry, clean}
use Rattle.model.specs.declared.entries.Entry.{Entry}
use Rattle.model.proofs.Proper.{clean_same, clean_is_entry}
use Rattle.posts.specs.Meaning.{Item, PostLaws, Puts, sendable, addressed}
use Rattle.posts.specs.Putting.{puts_kept}
use Rattle.stores.specs.Meaning.{StoreLaws, OnlyAt, Saves}
use Rattle.machine.specs.Worked.{Pile, pile_means, Slate, slate_means}

-- a frame of at most seven entries can be carried
pub laid_out_sendable : (h : Heading) (es : List Entry) → length es ≤ 7 → sendable (laid_out h es) ≡ true
laid_out_sendable h es few =
    let long = length-laid_out h es in
    and_from _ _ (lt-ltb 0 (length (laid_out h es)) (omega arith)) (le-leb (length (laid_out h es)) 88 (omega arith))

abbrev Carried : Item → Type 0
Carried item = sendable item.frame ≡ true

pub pile_lawful : PostLaws pile_means
pile_lawful =
    record {
      offered = λ p frame to q keeps. (and_parts (sendable frame) (to q) keeps).1;
      carried = λ p frame to q keeps. (and_parts (sendable frame) (to q) keeps).0;
      frames = λ p. p.carried;
    }

-- the pile with a frame for each of a set
abbrev pub put_on : (p : Pile) (frame : List ℕ) (to : ℕ → Bool) → sendable frame ≡ true → Pile
put_on p frame to ok = record {
  items = p.items ++ map (addressed frame) (filter to (range_with_len 0 8));
  carried =
      All-append Carried p.items _ p.carried
      (All-map Carried (addressed frame) (filter to (range_with_len 0 8)) (All-from_get_or (λ q. sendable frame ≡ true) (filter to (range_with_len 0 8)) 0 (λ i lt. ok)));
}

pub puts_on : (p : Pile) (frame : List ℕ) (to : ℕ → Bool) (ok : sendable frame ≡ true) → Puts pile_means p frame to (length (filter to (range_with_len 0 8))) (put_on p frame to ok)
puts_on p frame to ok =
    let keeps : filter to (range_with_len 0 8) ≡ filter (λ q. sendable frame && to q) (range_with_len 0 8) = ap (λ t. filter (λ q. t && to q) (range_with_len 0 8)) (sym ok) in
    puts_kept pile_means p frame to (put_on p frame to ok) _ 0 8 refl ok (ap (λ qs. p.items ++ map (addressed frame) qs) keeps) (ap length keeps)

-- the pile without one of its items
abbrev pub taken_off : Pile → ℕ → Pile
taken_off p index = record {
  items = remove p.items index;
  carried = All-append Carried (take index p.items) _ (All-take Carried index p.items p.carried) (All-drop Carried (suc index) p.items p.carried);
}

pub slate_lawful : StoreLaws slate_means
slate_lawful =
    record {
      held = λ s k. clean_is_entry (get_or s.entries k none);
      missing = λ s k past. ap clean (get_or_past s.entries k none past);
      no_place = λ s k e past. or_left _ (eqb s.until 1) (ap not (le-ltb k (length s.entries) past));
    }

-- the slate with another entry at a place, one save later
abbrev pub written_at : Slate → ℕ → Entry → Slate
written_at s k e = record { entries = set s.entries k e; until = s.until - 1 }

module _ (s : Slate) (k : ℕ) (e : Entry) where
  only_at : OnlyAt slate_means k s (written_at s k e)
  only_at = record { places = length-set s.entries k e; others = λ j ne. ap clean (get_or-set_other s.entries k j e none ne) }

  module _ (within : ltb k (length s.entries) ≡ true) (proper : is_entry e ≡ true) where
    holds : slate_means.at (written_at s k e) k ≡ e
    holds = ap clean (get_or-set_same s.entries k e none (ltb-true k _ within)) ∙ clean_same e proper

    pub saves_well : eqb s.until 1 ≡ false → Saves slate_means s k e (Ok tt) (written_at s k e)
    saves_well later = ((λ i. not (within i) || later i), holds, only_at)

    -- a save that fails after it wrote
    pub saves_badly : eqb s.until 1 ≡ true → Saves slate_means s k e (Err (record { place = k })) (written_at s k e)
    saves_badly now = ((λ i. not (within i) || now i), refl, inr holds, only_at)

-- the frame of a heading and its entries
abbrev pub frame_of : (h : Heading) → Sound h → List Entry → Frame
frame_of h sound es = record {
  header = record {
    sort = h.sort;
    n = h.n;
    sender = h.sender;
    kind = h.kind;
    to = h.to;
    cell = h.cell;
    some = sound.some;
    few = sound.few;
    sent = sound.sent;
    known = sound.known;
    named = sound.named;
    addressed = sound.addressed;
  };
  row = record { entries = es ++ replicate (7 - length es) none };
}

-- what is laid out for a participant spells that frame
pub spells_well : {V : Type 0} (m : KindMeaning V) (h : Heading) (es : List Entry) (n cells q : ℕ) (sound : Sound h) → ForUs m h n cells q → length es ≡ n
    → All (λ e. is_entry e ≡ true) es → All (λ e. valued m e ≡ true) es → Spells m (laid_out h es) n cells q (frame_of h sound es)
spells_well m h es n cells q sound us long proper counts =
    record {
      faultless = faultless m h es n cells q sound us (record { long = long; counts = cleaned });
      heading = sym (heading_back h es sound);
      row = λ i. record { entries = sym (entries_back h es n long ∙ clean_all es proper) i ++ replicate (7 - long i) none };
      only_so = ap (laid_out h) (sym (take_at es _ n long));
      proper = All-append (λ e. is_entry e ≡ true) es _ proper (All-replicate (λ e. is_entry e ≡ true) (7 - length es) none refl);
      counts = All-append (λ e. valued m e ≡ true) es _ counts (All-replicate (λ e. valued m e ≡ true) (7 - length es) none refl);
      for_us = us;
    }
  where
    cleaned : All (λ e. valued m (clean e) ≡ true) es
    cleaned k d lt = subst (λ e. valued m e ≡ true) (sym (clean_same (get_or es k d) (proper k d lt))) (counts k d lt)
