-- What is joined of pieces that are sorted unit by unit is what is joined of them as they stood.
use Rattle.std.proofs.Common.{◌≡◌, ◌∙◌, ◌&&◌, not, ℕ, Bool, if◌then◌else◌, List, [], ◌∷◌, ◌++◌, codes, refl, sym, ap, ap₂}
use Rattle.std.proofs.lemmas.Cmp.{nat_list_cmp_total}
use Rattle.std.proofs.lemmas.List.Elements.{filter-append}
use Rattle.std.proofs.lemmas.List.Sorted.{Contains-permutation, IsPermutation-sym, IsPermutation-trans, list_any-IsPermutation, ranks_by}
use Rattle.std.specs.Cmp.{IsStrictWeakOrder}
use Rattle.std.specs.List.{AllZip, Contains, filter, flat_map}
use Rattle.std.specs.List.Sorted.{IsPermutation, IsStableBy, ties}
use Rattle.std.specs.Ordering.{is_lt}
use Rattle.std.specs.Str.{bytes_eq}
use Rattle.lto_task.specs.declared.piece.Piece.{Piece}
use Rattle.emit.specs.Joins.{IsInNameOrder, IsJoin, IsUsed, asked, getchar_line, host_lines, is_function, line_in_use, lines_of, piece_cmp, putchar_line, referred_by}
use Rattle.link_one.proofs.Moved.{moved, stable_filter}

abbrev lesser : Piece → Piece → Bool
lesser p q = is_lt (piece_cmp p q)

order : IsStrictWeakOrder lesser
order = ranks_by nat_list_cmp_total (λ (p : Piece). p.name)

abbrev all_of : List (List Piece) → List Piece
all_of units = flat_map (λ ps. ps) units

stable_all : (kept units : List (List Piece)) → AllZip IsInNameOrder kept units → IsStableBy lesser (all_of kept) (all_of units)
stable_all [] [] z x = refl
stable_all [] (unit ∷ units) z x = absurd z
stable_all (ks ∷ kept) [] z x = absurd z
stable_all (ks ∷ kept) (unit ∷ units) z x =
    filter-append (ties lesser x) unit (all_of units)
    ∙ ap₂ (λ (a b : List Piece). a ++ b) (z.0.stable x) (stable_all kept units z.1 x)
    ∙ sym (filter-append (ties lesser x) ks (all_of kept))

used_among : (exports : List (List ℕ)) (pieces others : List Piece) → ((p : Piece) → Contains pieces p → Contains others p) → (name : List ℕ) → IsUsed exports pieces name → IsUsed exports others name
used_among exports pieces others so name (asked _ h) = asked name h
used_among exports pieces others so name (referred_by p _ there used refers) = referred_by p name (so p there) (used_among exports pieces others so p.name used) refers

module _ (before after : List Piece) (stable : IsStableBy lesser before after) where
  same : IsPermutation before after
  same = moved lesser order before after stable

  in_order : (such : Piece → Bool) (pieces : List Piece) → IsInNameOrder (filter such after) pieces → IsInNameOrder (filter such before) pieces
  in_order such pieces o = record {
    same = IsPermutation-trans _ _ _ (moved lesser order (filter such before) (filter such after) (stable_filter lesser order such before after stable)) o.same;
    sorted = o.sorted;
    stable = λ x. o.stable x ∙ stable_filter lesser order such before after stable x;
  }

  line_same : (keeps : List ℕ → Bool) (name line : List ℕ) → line_in_use keeps after name line ≡ line_in_use keeps before name line
  line_same keeps name line = ap (λ (h : Bool). if keeps name && not h then line else []) (sym (list_any-IsPermutation (λ (p : Piece). bytes_eq p.name name) before after same))

  hosts_same : (keeps : List ℕ → Bool) → host_lines keeps after ≡ host_lines keeps before
  hosts_same keeps = ap₂ (λ (a b : List ℕ). a ++ b) (line_same keeps (codes "getchar") getchar_line) (line_same keeps (codes "putchar") putchar_line)

  pub join_before : (exports : List (List ℕ)) (header text : List ℕ) → IsJoin exports after header text → IsJoin exports before header text
  join_before exports header text j = record {
    keeps = j.keeps;
    kept = λ name. (
      λ on. used_among exports after before (λ p there. Contains-permutation after before p (IsPermutation-sym before after same) there) name ((j.kept name).0 on),
      λ used. (j.kept name).1 (used_among exports before after (λ p there. Contains-permutation before after p same there) name used),
    );
    variables = j.variables;
    variables_are = in_order (λ p. j.keeps p.name && not (is_function p)) j.variables j.variables_are;
    functions = j.functions;
    functions_are = in_order (λ p. j.keeps p.name && is_function p) j.functions j.functions_are;
    is = j.is ∙ ap (λ (h : List ℕ). header ++ (lines_of j.variables ++ (h ++ lines_of j.functions))) (hosts_same j.keeps);
  }

pub join_of_kept : (exports : List (List ℕ)) (kept units : List (List Piece)) (header text : List ℕ) → AllZip IsInNameOrder kept units → IsJoin exports (flat_map (λ ps. ps) units) header text
    → IsJoin exports (flat_map (λ ps. ps) kept) header text
join_of_kept exports kept units header text z j = join_before (all_of kept) (all_of units) (stable_all kept units z) exports header text j
