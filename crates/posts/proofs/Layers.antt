-- A put through a layer. Assumes nothing.
use Rattle.std.proofs.Common.{◌≡◌, ℕ, Bool, List}
use Rattle.posts.specs.Meaning.{PostMeaning, Puts}
use Rattle.posts.specs.Layers.{layered}

module _ {L P : Type 0} (below : L → P) (through : L → (ℕ → Bool) → ℕ → Bool) (m : PostMeaning P) where
  pub puts_through : (before after : L) (frame : List ℕ) (to : ℕ → Bool) (n : ℕ) → (below after ≡ below before → after ≡ before) → Puts m (below before) frame (through before to) n (below after) → Puts (layered below through m) before frame to n after
  puts_through before after frame to n same p =
      record { left = p.left; thinned = p.thinned; list = p.list; count = p.count; refused = λ unfit. same (p.refused unfit) }
