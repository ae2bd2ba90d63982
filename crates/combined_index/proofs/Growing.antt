-- What is reached grows, a number at a time.
use Rattle.std.proofs.Common.{◌≡◌, ◌∙◌, ◌⊎◌, inl, inr, ℕ, zero, suc, ◌+◌, ◌<◌, Bool, true, false, List, [], ◌∷◌, ◌++◌, length, set, refl, sym, ap, subst, arith, length-append}
use Rattle.std.proofs.lemmas.Bool.{cases_eq, false≢true}
use Rattle.std.proofs.lemmas.List.{get_or-set_same, get_or-set_other, length-set}
use Rattle.std.proofs.lemmas.List.Elements.{Contains-append_left, Contains-push, Contains-push_cases}
use Rattle.std.specs.List.{Contains}
use Rattle.lto_sets.specs.Sets.{contains}
use Rattle.combined_index.specs.Walking.{Grown, outside}

outside-set : (s : List Bool) (b : ℕ) → b < length s → contains s b ≡ false → outside (set s b true) + 1 ≡ outside s
outside-set [] b h f = absurd (omega arith)
outside-set (true ∷ s) zero h f = absurd (false≢true (sym f))
outside-set (false ∷ s) zero h f = omega arith
outside-set (true ∷ s) (suc b) h f = let k : b < length s = omega arith in outside-set s b k f
outside-set (false ∷ s) (suc b) h f =
    let k : b < length s = omega arith in
    let r : outside (set s b true) + 1 ≡ outside s = outside-set s b k f in omega arith

nothing : (b : ℕ) → Contains {X = ℕ} [] b → ⊥
nothing b h = let k : h.0 < 0 = h.1 in absurd (omega (arith, k))

pub alone : (x b : ℕ) → Contains (x ∷ []) b → x ≡ b
alone x b h = elim (Contains-push_cases [] x b h) [ inl e ↦ absurd (nothing b e) | inr e ↦ e ]

-- nothing more is reached
pub grown-none : (s : List Bool) (w : List ℕ) → Grown s w [] s w
grown-none s w = record {
  long = refl;
  room = refl;
  stays = λ b h. h;
  there = λ b h. absurd (nothing b h);
  from = λ b h. inl h;
  waits = λ b h. h;
  new = λ b h. inl h;
  held = λ b h. inl h;
}

-- a number that is reached already
pub grown-old : (s : List Bool) (w : List ℕ) (x : ℕ) → contains s x ≡ true → Grown s w (x ∷ []) s w
grown-old s w x here = record {
  long = refl;
  room = refl;
  stays = λ b h. h;
  there = λ b h. ap (contains s) (sym (alone x b h)) ∙ here;
  from = λ b h. inl h;
  waits = λ b h. h;
  new = λ b h. inl h;
  held = λ b h. inl h;
}

-- a number that isn't
pub grown-new : (s : List Bool) (w : List ℕ) (x : ℕ) → x < length s → contains s x ≡ false → Grown s w (x ∷ []) (set s x true) (w ++ x ∷ [])
grown-new s w x inside free = record {
  long = length-set s x true;
  room = omega (arith, outside-set s x inside free, length-append w (x ∷ []));
  stays = stay;
  there = λ b h. ap (contains (set s x true)) (sym (alone x b h)) ∙ here;
  from = λ b h. elim (came b h) [ inl e ↦ inr (same b e) | inr k ↦ inl k ];
  waits = λ b h. Contains-append_left w (x ∷ []) b h;
  new = λ b h. elim (came b h) [ inl e ↦ inr (subst (Contains (w ++ x ∷ [])) (sym e) (Contains-push w x)) | inr k ↦ inl k ];
  held = λ b h. elim (Contains-push_cases w x b h) [ inl k ↦ inl k | inr e ↦ inr (same b (sym e)) ];
}
  where
    here : contains (set s x true) x ≡ true
    here = get_or-set_same s x true false inside

    same : (b : ℕ) → b ≡ x → Contains (x ∷ []) b
    same b e = subst (Contains (x ∷ [])) (sym e) (Contains-push [] x)

    came : (b : ℕ) → contains (set s x true) b ≡ true → (b ≡ x) ⊎ (contains s b ≡ true)
    came b h = elim (cases_eq b x) [ inl e ↦ inl e | inr o ↦ inr (sym (get_or-set_other s x b true false o) ∙ h) ]

    stay : (b : ℕ) → contains s b ≡ true → contains (set s x true) b ≡ true
    stay b h = elim (cases_eq b x) [ inl e ↦ ap (contains (set s x true)) e ∙ here | inr o ↦ get_or-set_other s x b true false o ∙ h ]

-- one number more
pub grown-more : (s t u : List Bool) (w v z ns : List ℕ) (x : ℕ) → Grown s w ns t v → Grown t v (x ∷ []) u z → Grown s w (ns ++ x ∷ []) u z
grown-more s t u w v z ns x g f = record {
  long = f.long ∙ g.long;
  room = f.room ∙ g.room;
  stays = λ b h. f.stays b (g.stays b h);
  there = λ b h. elim (Contains-push_cases ns x b h) [ inl k ↦ f.stays b (g.there b k) | inr e ↦ f.there b (subst (Contains (x ∷ [])) e (Contains-push [] x)) ];
  from = λ b h. elim (f.from b h) [ inl k ↦ elim (g.from b k) [ inl l ↦ inl l | inr l ↦ inr (Contains-append_left ns (x ∷ []) b l) ] | inr k ↦ inr (last b k) ];
  waits = λ b h. f.waits b (g.waits b h);
  new = λ b h. elim (f.new b h) [ inl k ↦ elim (g.new b k) [ inl l ↦ inl l | inr l ↦ inr (f.waits b l) ] | inr k ↦ inr k ];
  held = λ b h. elim (f.held b h) [ inl k ↦ elim (g.held b k) [ inl l ↦ inl l | inr l ↦ inr (Contains-append_left ns (x ∷ []) b l) ] | inr k ↦ inr (last b k) ];
}
  where
    last : (b : ℕ) → Contains (x ∷ []) b → Contains (ns ++ x ∷ []) b
    last b h = subst (Contains (ns ++ x ∷ [])) (alone x b h) (Contains-push ns x)
