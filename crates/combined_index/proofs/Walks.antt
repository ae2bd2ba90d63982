-- A walk that has followed all that it reached has reached what is reachable.
use Rattle.std.proofs.Common.{◌≡◌, ◌∙◌, ◌⊎◌, inl, inr, ℕ, ◌+◌, ◌<◌, Bool, true, List, [], ◌∷◌, ◌++◌, length, sym, ap, subst, arith, length-append}
use Rattle.std.proofs.lemmas.List.Elements.{Contains-append_left, Contains-push, Contains-push_cases}
use Rattle.std.specs.List.{Contains}
use Rattle.lto_sets.specs.Sets.{contains}
use Rattle.combined_index.specs.Reach.{IsReached, starts, leads}
use Rattle.combined_index.specs.Walking.{Grown, IsReach, IsWalk, outside}

module _ (IsStart : ℕ → Type 0) (row : ℕ → List ℕ) where
  -- the row of a number that waited is reached
  pub walk-step : (s t : List Bool) (w rest next : List ℕ) (y : ℕ) → w ≡ rest ++ y ∷ [] → Grown s rest (row y) t next → IsWalk IsStart row s w → IsWalk IsStart row t next
  walk-step s t w rest next y w_is g walk = record {
    sound = λ b h. elim (g.from b h) [ inl k ↦ walk.sound b k | inr k ↦ leads y b (walk.sound y y_marked) k ];
    begun = λ b h. g.stays b (walk.begun b h);
    marked = λ b h. elim (g.held b h) [ inl k ↦ g.stays b (walk.marked b (in_all b k)) | inr k ↦ g.there b k ];
    followed = λ b h. elim (g.new b h) [ inl k ↦ old b k (walk.followed b k) | inr k ↦ inl k ];
  }
    where
      in_all : (b : ℕ) → Contains rest b → Contains w b
      in_all b h = subst (λ (l : List ℕ). Contains l b) (sym w_is) (Contains-append_left rest (y ∷ []) b h)

      y_marked : contains s y ≡ true
      y_marked = walk.marked y (subst (λ (l : List ℕ). Contains l y) (sym w_is) (Contains-push rest y))

      old : (b : ℕ) → contains s b ≡ true → Contains w b ⊎ ((t : ℕ) → Contains (row b) t → contains s t ≡ true)
          → Contains next b ⊎ ((r : ℕ) → Contains (row b) r → contains t r ≡ true)
      old b k (inl waits) =
          elim (Contains-push_cases rest y b (subst (λ (l : List ℕ). Contains l b) w_is waits)) [
            | inl l ↦ inl (g.waits b l)
            | inr e ↦ inr (λ r h. g.there r (subst (λ (z : ℕ). Contains (row z) r) (sym e) h))
          ]
      old b k (inr done) = inr (λ r h. g.stays r (done r h))

  pub walk-done : (s : List Bool) (w : List ℕ) → w ≡ [] → IsWalk IsStart row s w → IsReach IsStart row s
  walk-done s w none walk b = (λ h. walk.sound b h, complete b)
    where
      nothing : (b : ℕ) → Contains w b → ⊥
      nothing b h = let l : length w ≡ 0 = ap length none in absurd (omega (arith, h.1, l))

      complete : (b : ℕ) → IsReached IsStart row b → contains s b ≡ true
      complete b (starts _ h) = walk.begun b h
      complete b (leads m _ r h) = elim (walk.followed m (complete m r)) [ inl waits ↦ absurd (nothing m waits) | inr done ↦ done b h ]

-- each step of a walk brings it nearer to its end
pub nearer : (s t : List Bool) (w rest next ns : List ℕ) (y : ℕ) → w ≡ rest ++ y ∷ [] → Grown s rest ns t next → outside t + length next < outside s + length w
nearer s t w rest next ns y w_is g =
    let longer : length w ≡ length rest + 1 = ap length w_is ∙ length-append rest (y ∷ []) in
    let r : outside t + length next ≡ outside s + length rest = g.room in
    omega (arith, longer, r)
