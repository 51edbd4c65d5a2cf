-- The line is a post, and what its put has to show. Assumes nothing.
use Rattle.std.specs.Prelude.{◌≡◌, ℕ, ◌-◌, Bool, true, List, length}
use Rattle.std.proofs.Common.{arith}
use Rattle.std.proofs.lemmas.Bool.{and_parts}
use Rattle.posts.specs.Meaning.{PostLaws, Puts, sendable}
use Rattle.posts.specs.Lines.{line_means, line_items}
use Rattle.posts.specs.Midway.{Filling}
use Rattle.posts.specs.declared.line.Line.{Line}
use Rattle.posts.specs.ParcelsLemmas.{tray_sendable}
use Rattle.posts.specs.Putting.{puts_kept}
use Rattle.posts.specs.Filling.{filling_count}

pub line_lawful : PostLaws line_means
line_lawful =
    record {
      offered = λ line frame to q e. (and_parts (to q) _ (and_parts (sendable frame) _ e).1).0;
      carried = λ line frame to q e. (and_parts (sendable frame) _ e).0;
      frames = λ line. tray_sendable line.tray;
    }

module _ (before : Line) (frame : List ℕ) (to : ℕ → Bool) where
  module _ (after : Line) (q : ℕ) (all : q ≡ 8) (f : Filling (line_items before) frame to q (line_items after)) where
    pub puts_filled : (n : ℕ) → sendable frame ≡ true → n ≡ length (line_items after) - length (line_items before) → Puts line_means before frame to n after
    puts_filled n fit added =
        let count = filling_count (line_items before) frame to q (line_items after) f in
        puts_kept line_means before frame to after n 0 q all fit f.list (omega arith)
