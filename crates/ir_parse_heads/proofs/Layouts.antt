-- A layout is its first item, and then the rest.
use Rattle.std.proofs.Common.{◌≡◌, ℕ, suc, ◌<◌, nat_eq, Bool, true, false, cond, ◌&&◌, Option, Some, None, List, [], ◌∷◌, length, refl, ap, ◌∙◌, arith}
use Rattle.ir_parse_heads.specs.Targets.{split_at, with_byte, until, after, fits_item, all_fit}

module _ (c : ℕ) where
  -- the parts behind the first
  abbrev behind : Option (List ℕ) → List (List ℕ)
  behind None = []
  behind (Some rest) = split_at c rest

  parts : (bs : List ℕ) → split_at c bs ≡ until c bs ∷ behind (after c bs)
  parts [] = refl
  parts (b ∷ bs) = by_test (nat_eq b c) (parts bs)
    where
      by_test : (t : Bool) → split_at c bs ≡ until c bs ∷ behind (after c bs) → cond t ([] ∷ split_at c bs) (with_byte b (split_at c bs)) ≡ cond t [] (b ∷ until c bs) ∷ behind (cond t (Some bs) (after c bs))
      by_test true e = refl
      by_test false e = ap (with_byte b) e

  pub shorter : (bs rest : List ℕ) → after c bs ≡ Some rest → length rest < length bs
  shorter [] rest e = absurd cc
  shorter (b ∷ bs) rest e = by_test (λ d. shorter bs rest d) (nat_eq b c) e
    where
      same : (xs ys : List ℕ) → Some xs ≡ Some ys → xs ≡ ys
      same xs ys e = cc

      by_test : (after c bs ≡ Some rest → length rest < length bs) → (t : Bool) → cond t (Some bs) (after c bs) ≡ Some rest → length rest < suc (length bs)
      by_test again true d = omega (arith, ap length (same bs rest d))
      by_test again false d = let h = again d in omega (arith, h)

  fits_by : (bs : List ℕ) (o : Option (List ℕ)) → after c bs ≡ o → all_fit (split_at c bs) ≡ fits_item (until c bs) && all_fit (behind o)
  fits_by bs o e = ap all_fit (parts bs) ∙ ap (λ (x : Option (List ℕ)). fits_item (until c bs) && all_fit (behind x)) e

  -- a first item that isn't supported
  pub fails : (bs : List ℕ) → fits_item (until c bs) ≡ false → all_fit (split_at c bs) ≡ false
  fails bs e = fits_by bs (after c bs) refl ∙ ap (λ (b : Bool). b && all_fit (behind (after c bs))) e

  -- one that is, and is the last
  pub fits : (bs : List ℕ) → fits_item (until c bs) ≡ true → after c bs ≡ None → all_fit (split_at c bs) ≡ true
  fits bs e d = fits_by bs None d ∙ ap (λ (b : Bool). b && true) e

  -- one that is, with more behind it
  pub fits_more : (bs rest : List ℕ) → fits_item (until c bs) ≡ true → after c bs ≡ Some rest → all_fit (split_at c bs) ≡ all_fit (split_at c rest)
  fits_more bs rest e d = fits_by bs (Some rest) d ∙ ap (λ (b : Bool). b && all_fit (split_at c rest)) e
