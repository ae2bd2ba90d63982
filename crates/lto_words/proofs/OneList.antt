-- A list file lists links, or has a first line that is none.
use Rattle.std.proofs.Common.{◌≡◌, ◌⊎◌, ◌∙◌, ◌<◌, ◌≤◌, ◌+◌, ℕ, Bool, true, false, List, [], ◌∷◌, length, ap, inl, inr, refl, sym, arith}
use Rattle.std.specs.List.{list_all}
use Rattle.std.proofs.lemmas.Bool.{cases_lt}
use Rattle.lto_words.specs.Lists.{EitherListOrBad, ListHasNoBadLine, OneBadLine, OneList}
use Rattle.lto_words.specs.Listing.{AreLinks, IsFirstBad, IsLink, Lists, is_name, lines_of, names_in}
use Rattle.lto_words.specs.declared.listing.ListedLink.{ListedLink}

-- ---- one line

same_link : (line : List ℕ) (a b : ListedLink) → Lists line a → Lists line b → a ≡ b
same_link line a b x y =
    let names : a.out ∷ a.files ≡ b.out ∷ b.files = sym x.names ∙ y.names in
    let out : a.out ≡ b.out = cc names in
    let files : a.files ≡ b.files = cc names in
    λ i. record { out = out i; files = files i }

-- the line is a link, or it is none
Decided : ℕ → List ℕ → Type 0
Decided number line = ((link : ListedLink) × IsLink number line link) ⊎ ((link : ListedLink) → IsLink number line link → ⊥)

module _ (number : ℕ) (line : List ℕ) where
  decide_count : (out : List ℕ) (files : List (List ℕ)) → number ≤ 16 → names_in line ≡ out ∷ files → list_all is_name (names_in line) ≡ true → 0 < length files → (4096 < length files) ⊎ (length files ≤ 4096) → Decided number line
  unfolding Decided
  decide_count out files low is each some (inl many) = inr (λ link h. let names : link.out ∷ link.files ≡ out ∷ files = sym h.1.names ∙ is in let same : link.files ≡ files = cc names in absurd (omega (arith, ap length same, h.1.few, many)))
  decide_count out files low is each some (inr few) = inl (record { out = out; files = files }, (low, record { names = is; each = each; some = some; few = few }))

  decide_some : (out : List ℕ) (files : List (List ℕ)) → number ≤ 16 → names_in line ≡ out ∷ files → list_all is_name (names_in line) ≡ true → Decided number line
  unfolding Decided
  decide_some out [] low is each = inr (λ link h. let names : link.out ∷ link.files ≡ out ∷ [] = sym h.1.names ∙ is in let same : link.files ≡ [] = cc names in absurd (omega (arith, ap length same, h.1.some)))
  decide_some out (file ∷ files) low is each = decide_count out (file ∷ files) low is each (omega arith) (cases_lt 4096 (length (file ∷ files)))

  decide_names : (names : List (List ℕ)) → number ≤ 16 → names_in line ≡ names → list_all is_name (names_in line) ≡ true → Decided number line
  unfolding Decided
  decide_names [] low is each = inr (λ link h. let never : [] ≡ link.out ∷ link.files = sym is ∙ h.1.names in cc never)
  decide_names (out ∷ files) low is each = decide_some out files low is each

  decide_each : (b : Bool) → list_all is_name (names_in line) ≡ b → number ≤ 16 → Decided number line
  unfolding Decided
  decide_each true each low = decide_names (names_in line) low refl each
  decide_each false one low = inr (λ link h. let never : true ≡ false = sym h.1.each ∙ one in cc never)

  decide_number : (16 < number) ⊎ (number ≤ 16) → Decided number line
  unfolding Decided
  decide_number (inl high) = inr (λ link h. absurd (omega (arith, high, h.0)))
  decide_number (inr low) = decide_each (list_all is_name (names_in line)) refl low

  decided : ((link : ListedLink) × IsLink number line link) ⊎ ((link : ListedLink) → IsLink number line link → ⊥)
  unfolding Decided
  decided = decide_number (cases_lt 16 number)

-- ---- all lines

either : (number : ℕ) (lines : List (List ℕ)) → ((links : List ListedLink) × AreLinks number lines links) ⊎ ((bad : ℕ) × IsFirstBad number lines bad)
either number [] = inl ([], tt)
either number (line ∷ lines) = by (decided number line) (either (number + 1) lines)
  where
    by : ((link : ListedLink) × IsLink number line link) ⊎ ((link : ListedLink) → IsLink number line link → ⊥) → ((links : List ListedLink) × AreLinks (number + 1) lines links) ⊎ ((bad : ℕ) × IsFirstBad (number + 1) lines bad)
        → ((links : List ListedLink) × AreLinks number (line ∷ lines) links) ⊎ ((bad : ℕ) × IsFirstBad number (line ∷ lines) bad)
    by (inr none) rest = inr (number, inl (refl, none))
    by (inl link) (inl links) = inl (link.0 ∷ links.0, (link.1, links.1))
    by (inl link) (inr bad) = inr (bad.0, inr (link, bad.1))

apart : (number : ℕ) (lines : List (List ℕ)) (links : List ListedLink) (bad : ℕ) → AreLinks number lines links → IsFirstBad number lines bad → ⊥
apart number [] links bad a b = b
apart number (line ∷ lines) [] bad a b = a
apart number (line ∷ lines) (link ∷ links) bad a (inl b) = b.1 link a.0
apart number (line ∷ lines) (link ∷ links) bad a (inr b) = apart (number + 1) lines links bad a.1 b.1

one_links : (number : ℕ) (lines : List (List ℕ)) (links others : List ListedLink) → AreLinks number lines links → AreLinks number lines others → links ≡ others
one_links number [] [] [] a b = refl
one_links number [] [] (other ∷ others) a b = absurd b
one_links number [] (link ∷ links) others a b = absurd a
one_links number (line ∷ lines) [] others a b = absurd a
one_links number (line ∷ lines) (link ∷ links) [] a b = absurd b
one_links number (line ∷ lines) (link ∷ links) (other ∷ others) a b =
    let first : link ≡ other = same_link line link other a.0.1 b.0.1 in
    let rest : links ≡ others = one_links (number + 1) lines links others a.1 b.1 in
    λ i. first i ∷ rest i

one_bad : (number : ℕ) (lines : List (List ℕ)) (bad other : ℕ) → IsFirstBad number lines bad → IsFirstBad number lines other → bad ≡ other
one_bad number [] bad other a b = absurd a
one_bad number (line ∷ lines) bad other (inl a) (inl b) = a.0 ∙ sym b.0
one_bad number (line ∷ lines) bad other (inl a) (inr b) = absurd (a.1 b.0.0 b.0.1)
one_bad number (line ∷ lines) bad other (inr a) (inl b) = absurd (b.1 a.0.0 a.0.1)
one_bad number (line ∷ lines) bad other (inr a) (inr b) = one_bad (number + 1) lines bad other a.1 b.1

pub either_list_or_bad : EitherListOrBad
either_list_or_bad bytes = either 1 (lines_of bytes)

pub list_has_no_bad_line : ListHasNoBadLine
list_has_no_bad_line bytes links line a b = apart 1 (lines_of bytes) links line a b

pub one_list : OneList
one_list bytes links others a b = one_links 1 (lines_of bytes) links others a b

pub one_bad_line : OneBadLine
one_bad_line bytes line other a b = one_bad 1 (lines_of bytes) line other a b
