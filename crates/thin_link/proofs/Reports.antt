-- What is live, what is imported and the report of an index are each one.
use Rattle.std.proofs.Common.{◌≡◌, ◌∙◌, ◌<◌, ◌++◌, ◌∷◌, [], ℕ, Bool, List, map, length, flat_map, get_or, sym, ap, arith}
use Rattle.std.proofs.lemmas.Cmp.{nat_cmp_total, nat_list_cmp_total, on_total, then_total}
use Rattle.std.proofs.lemmas.List.{get_or_default, same_lists}
use Rattle.std.proofs.lemmas.List.Sorted.{ranks_by}
use Rattle.std.specs.Cmp.{IsTotalOrder}
use Rattle.std.specs.Ordering.{is_lt}
use Rattle.combined_index.specs.Combined.{Combined}
use Rattle.combined_index.specs.Liveness.{AreLive}
use Rattle.thin_link.specs.Plans.{IsPlan}
use Rattle.thin_link.specs.Lines.{definition_line, import_line, module_line, text_of}
use Rattle.thin_link.specs.Listed.{IsInOrder, Listed, listed_cmp}
use Rattle.thin_link.specs.Reports.{AreLines, IsReport}
use Rattle.thin_link.proofs.Determined.{same_marks, same_rising}
use Rattle.combined_index.proofs.StableSorts.{same_sorted}

pub one_live : (c : Combined) (exports : List (List ℕ)) (marks others : List Bool) → AreLive c exports marks → AreLive c exports others → marks ≡ others
one_live c exports marks others h g =
    same_marks marks others (h.long ∙ sym g.long) (λ n on. (g.live n).1 ((h.live n).0 on)) (λ n on. (h.live n).1 ((g.live n).0 on))

pub one_plan : (c : Combined) (live : List Bool) (limit : ℕ) (lists others : List (List ℕ)) → IsPlan c live limit lists → IsPlan c live limit others → lists ≡ others
one_plan c live limit lists others h g = same_lists lists others (h.modules ∙ sym g.modules) each
  where
    each : (k : ℕ) (d : List ℕ) → k < length lists → get_or lists k d ≡ get_or others k d
    each k d inside =
        let one = h.imports k (omega (arith, inside, h.modules)) in
        let two = g.imports k (omega (arith, inside, h.modules)) in
        get_or_default lists k d [] inside
        ∙ same_rising (get_or lists k []) (get_or others k []) one.rising two.rising (λ n there. (two.imported n).1 ((one.imported n).0 there))
        (λ n there. (one.imported n).1 ((two.imported n).0 there))
        ∙ get_or_default others k [] d (omega (arith, inside, h.modules, g.modules))

-- ---- the report

listed_total : IsTotalOrder listed_cmp
listed_total = then_total (on_total (λ (e : Listed). e.name) nat_list_cmp_total) (on_total (λ (e : Listed). e.home) nat_cmp_total)

one_order : (before after other : List Listed) → IsInOrder before after → IsInOrder before other → after ≡ other
one_order before after other h g =
    same_sorted (λ a b. is_lt (listed_cmp a b)) (ranks_by listed_total (λ (e : Listed). e)) after other h.sorted g.sorted (λ e. h.stable e ∙ sym (g.stable e))

one_part : (c : Combined) (live : List Bool) (k : ℕ) (file imports : List ℕ) (lines others : List (List ℕ)) → AreLines c live k file imports lines → AreLines c live k file imports others → lines ≡ others
one_part c live k file imports lines others h g =
    h.lines_are
    ∙ ap (λ (ds : List Listed). module_line k file ∷ (map (definition_line live) ds ++ map import_line h.imported)) (one_order _ h.definitions g.definitions h.defined g.defined)
    ∙ ap (λ (is : List Listed). module_line k file ∷ (map (definition_line live) g.definitions ++ map import_line is)) (one_order _ h.imported g.imported h.brought g.brought)
    ∙ sym g.lines_are

pub one_report : (c : Combined) (live : List Bool) (imports files : List (List ℕ)) (text other : List ℕ) → IsReport c live imports files text → IsReport c live imports files other → text ≡ other
one_report c live imports files text other h g = h.text_is ∙ ap (λ (parts : List (List (List ℕ))). text_of (flat_map (λ part. part) parts)) (same_lists h.lines g.lines (h.modules ∙ sym g.modules) each) ∙ sym g.text_is
  where
    each : (k : ℕ) (d : List (List ℕ)) → k < length h.lines → get_or h.lines k d ≡ get_or g.lines k d
    each k d inside =
        get_or_default h.lines k d [] inside
        ∙ one_part c live k (get_or files k []) (get_or imports k []) (get_or h.lines k []) (get_or g.lines k []) (h.parts k (omega (arith, inside, h.modules)))
        (g.parts k (omega (arith, inside, h.modules)))
        ∙ get_or_default g.lines k [] d (omega (arith, inside, h.modules, g.modules))
