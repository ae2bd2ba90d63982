-- How a list file is read.
use Rattle.std.proofs.Common.{◌≡◌, ◌∙◌, ◌<◌, ◌≤◌, ◌+◌, ℕ, Bool, true, false, List, [], ◌∷◌, ◌++◌, length, map, ap, ap₂, sym, subst, arith, refl, inl, inr, append-nil, append_assoc, length-append}
use Rattle.std.specs.Borrow.{Bor}
use Rattle.std.specs.List.{list_all}
use Rattle.std.specs.Prelude.{◌==◌, ◌&&◌, count_by}
use Rattle.std.proofs.lemmas.List.Splits.{length-slice_split}
use Rattle.lto_words.specs.Listing.{AreLinks, IsFirstBad, IsLink, Lists, is_name, lines_of, names_in}
use Rattle.lto_words.specs.declared.listing.ListedLink.{ListedLink}

-- as many spaces as modules
spaces : (line : List ℕ) (link : ListedLink) → names_in line ≡ link.out ∷ link.files → count_by (λ b. b == 32) line ≡ length link.files
spaces line link names = let long : length (names_in line) ≡ count_by (λ b. b == 32) line + 1 = length-slice_split (λ (b : ℕ). b == 32) line in omega (arith, long, ap length names)

pub no_modules : (line : List ℕ) (count : ℕ) → count ≡ count_by (λ b. b == 32) line → count ≡ 0 → (link : ListedLink) → Lists line link → ⊥
no_modules line count is none link h = absurd (omega (arith, is, none, spaces line link h.names, h.some))

pub too_many : (line : List ℕ) (count : ℕ) → count ≡ count_by (λ b. b == 32) line → 4096 < count → (link : ListedLink) → Lists line link → ⊥
too_many line count is many link h = absurd (omega (arith, is, many, spaces line link h.names, h.few))

pub one_unnamed : (line : List ℕ) → list_all is_name (names_in line) ≡ false → (link : ListedLink) → Lists line link → ⊥
one_unnamed line one link h = let never : true ≡ false = sym h.each ∙ one in cc never

pub lists : (line : List ℕ) (link : ListedLink) → names_in line ≡ link.out ∷ link.files → list_all is_name (names_in line) ≡ true → count_by (λ b. b == 32) line ≤ 4096 → 0 < count_by (λ b. b == 32) line → Lists line link
lists line link names each few some = record {
  names = names;
  each = each;
  some = omega (arith, spaces line link names, some);
  few = omega (arith, spaces line link names, few);
}

-- ---- the parts of a line

abbrev bytes_of : List (Bor (List ℕ)) → List (List ℕ)
bytes_of = map (λ s. s.now)

module _ (line : List ℕ) (parts : List (Bor (List ℕ))) (is : bytes_of parts ≡ names_in line) where
  pub no_parts : length parts ≡ 0 → (link : ListedLink) → Lists line link → ⊥
  no_parts none link h = by parts none (is ∙ h.names)
    where
      by : (ps : List (Bor (List ℕ))) → length ps ≡ 0 → bytes_of ps ≡ link.out ∷ link.files → ⊥
      by [] none e = cc e
      by (p ∷ ps) none e = absurd (omega (arith, none))

  module _ (first : Bor (List ℕ)) (others : List (Bor (List ℕ))) (cut : parts ≡ first ∷ others) where
    names : first.now ∷ bytes_of others ≡ names_in line
    names = sym (ap bytes_of cut) ∙ is

    pub out_unnamed : is_name first.now ≡ false → (link : ListedLink) → Lists line link → ⊥
    out_unnamed none = one_unnamed line (sym (ap (list_all is_name) names) ∙ ap (λ (b : Bool). b && list_all is_name (bytes_of others)) none)

    pub file_unnamed : is_name first.now ≡ true → list_all is_name (bytes_of others) ≡ false → (link : ListedLink) → Lists line link → ⊥
    file_unnamed out none = one_unnamed line (sym (ap (list_all is_name) names) ∙ ap₂ (λ (a b : Bool). a && b) out none)

    pub all_named : (count : ℕ) → count ≡ count_by (λ b. b == 32) line → count ≤ 4096 → 0 < count → (out : List ℕ) (files : List (List ℕ)) → is_name first.now ≡ true → out ≡ first.now
        → list_all is_name (bytes_of others) ≡ true → files ≡ bytes_of others → Lists line (record { out = out; files = files })
    all_named count counted few some out files out_named out_is files_named files_is =
        lists line (record { out = out; files = files }) (sym names ∙ sym (ap₂ (λ (o : List ℕ) (fs : List (List ℕ)). o ∷ fs) out_is files_is))
        (sym (ap (list_all is_name) names) ∙ ap₂ (λ (a b : Bool). a && b) out_named files_named) (omega (arith, counted, few)) (omega (arith, counted, some))

-- ---- one line more

module _ (bytes rest line behind : List ℕ) (links : List ListedLink) (cut : lines_of rest ≡ line ∷ lines_of behind) where
  pub good_more : ((more : List ListedLink) → AreLinks (length links + 1) (lines_of rest) more → AreLinks 1 (lines_of bytes) (links ++ more)) → (link : ListedLink) → IsLink (length links + 1) line link
      → (next : List ListedLink) → next ≡ links ++ link ∷ [] → (more : List ListedLink) → AreLinks (length next + 1) (lines_of behind) more → AreLinks 1 (lines_of bytes) (next ++ more)
  good_more good link is next next_is more are =
      subst (AreLinks 1 (lines_of bytes)) (sym (ap (λ (l : List ListedLink). l ++ more) next_is ∙ append_assoc links (link ∷ []) more))
      (good (link ∷ more) (subst (λ (ls : List (List ℕ)). AreLinks (length links + 1) ls (link ∷ more)) (sym cut) (is, subst (λ (n : ℕ). AreLinks n (lines_of behind) more) longer are)))
    where
      longer : length next + 1 ≡ (length links + 1) + 1
      longer = omega (arith, ap length next_is, length-append links (link ∷ []))

  pub bad_more : ((at : ℕ) → IsFirstBad (length links + 1) (lines_of rest) at → IsFirstBad 1 (lines_of bytes) at) → (link : ListedLink) → IsLink (length links + 1) line link
      → (next : List ListedLink) → next ≡ links ++ link ∷ [] → (at : ℕ) → IsFirstBad (length next + 1) (lines_of behind) at → IsFirstBad 1 (lines_of bytes) at
  bad_more bad link is next next_is at b =
      bad at (subst (λ (ls : List (List ℕ)). IsFirstBad (length links + 1) ls at) (sym cut) (inr ((link, is), subst (λ (n : ℕ). IsFirstBad n (lines_of behind) at) longer b)))
    where
      longer : length next + 1 ≡ (length links + 1) + 1
      longer = omega (arith, ap length next_is, length-append links (link ∷ []))

  pub bad_here : ((at : ℕ) → IsFirstBad (length links + 1) (lines_of rest) at → IsFirstBad 1 (lines_of bytes) at) → ((link : ListedLink) → IsLink (length links + 1) line link → ⊥)
      → IsFirstBad 1 (lines_of bytes) (length links + 1)
  bad_here bad none = bad (length links + 1) (subst (λ (ls : List (List ℕ)). IsFirstBad (length links + 1) ls (length links + 1)) (sym cut) (inl (refl, none)))

-- no line is left
pub all_read : (bytes rest : List ℕ) (links : List ListedLink) → length rest ≡ 0 → ((more : List ListedLink) → AreLinks (length links + 1) (lines_of rest) more → AreLinks 1 (lines_of bytes) (links ++ more)) → AreLinks 1 (lines_of bytes) links
all_read bytes [] links none good = subst (AreLinks 1 (lines_of bytes)) (append-nil links) (good [] tt)
all_read bytes (b ∷ rest) links none good = absurd (omega (arith, none))
