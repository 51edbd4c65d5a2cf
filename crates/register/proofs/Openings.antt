-- Lemmas for a session that opens. Assumes nothing.
use Rattle.std.proofs.Common.{◌≡◌, ℕ, ◌*◌, Bool, true, false, ◌&&◌, T, List, [], Ok, sym, refl, ap, ◌∙◌, subst, arith}
use Rattle.std.specs.Option.{ok_or}
use Rattle.std.proofs.lemmas.Bool.{le-leb, eq-eqb}
use Rattle.machine.specs.Board.{Board, with_rows}
use Rattle.machine.specs.Starts.{fits, Started}
use Rattle.model.specs.declared.faults.Fault.TheVariants.{NoRule}
use Rattle.model.specs.Makers.{made_if}
use Rattle.model.specs.declared.rows.Row.{Row}
use Rattle.posts.specs.Lines.{line_items}
use Rattle.posts.specs.declared.line.Line.{Line}
use Rattle.quorums.specs.Majorities.{made_majority}
use Rattle.quorums.specs.Sizes.{is_size}
use Rattle.quorums.specs.declared.majority.Majority.{Majority}
use Rattle.stores.specs.Meaning.{Fresh}
use Rattle.stores.specs.Page.{page_means}
use Rattle.stores.specs.declared.page.PageStore.{PageStore}
use Rattle.register.specs.Benches.{our_makes, Laid}
use Rattle.register.specs.Ranges.{in_range}

-- a rule that was made is for so many
pub rule_for : (n : ℕ) (rule : Majority) → made_majority n ≡ Ok rule → rule.n ≡ n
rule_for n rule = go (is_size n) (λ t. record { n = n; ok = t }) (λ t. refl) where
  go : (test : Bool) (make : T test → Majority) → ((t : T test) → (make t).n ≡ n) → ok_or (made_if test make) NoRule ≡ Ok rule → rule.n ≡ n
  go true make same e = let is : make tt ≡ rule = cc in sym (ap (λ q. q.n) is) ∙ same tt
  go false make same e = let z : ◌≡◌ {A = ℕ} 0 1 = cc in omega arith

all_hold : (s e f g : Bool) → e ≡ true → f ≡ true → g ≡ true → s && e && f && g ≡ s
all_hold true e f g a b c = λ i. true && a i && b i && c i
all_hold false e f g a b c = refl

-- over what a session makes, n and cells alone decide
pub fits_in_range : (n cells : ℕ) (rule : Majority) (rows : ℕ) (page : PageStore) → rule.n ≡ n → rows ≡ n * cells → page_means.places page ≡ n * cells → fits our_makes n cells rule rows page ≡ in_range n cells
fits_in_range n cells rule rows page a b c =
    all_hold (in_range n cells) _ _ _ (eq-eqb rows (n * cells) b) (eq-eqb rule.n n a) (le-leb (n * cells) (page_means.places page) (let h = c in omega arith))

pub laid : (n cells : ℕ) (rule : Majority) (rows : List Row) (y : Board Majority Line PageStore) → made_majority n ≡ Ok rule
    → y.table.rows ≡ rows → Started our_makes n cells rule y.store (with_rows y.table rows)
    → page_means.places y.store ≡ n * cells → Fresh page_means y.store → line_items y.post ≡ [] → Laid n cells y
laid n cells rule rows y made is s places fresh empty =
    let mine : rule ≡ y.table.rule = sym (ap (λ t. t.rule) s.table) in
    record {
      rule = made ∙ ap Ok mine;
      started = subst (λ q. Started our_makes n cells q y.store y.table) mine (subst (λ k. Started our_makes n cells rule y.store (with_rows y.table k)) (sym is) s);
      places = places;
      fresh = fresh;
      empty = empty;
    }
