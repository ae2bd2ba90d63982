-- The live definitions under their final names are such as may be emitted.
use Rattle.std.proofs.Common.{◌≡◌, ◌∙◌, ◌⊎◌, inl, inr, ◌<◌, ℕ, zero, suc, Bool, true, List, [], ◌∷◌, ◌++◌, Option, Some, append-nil, slice_get, sym, ap, subst}
use Rattle.std.proofs.lemmas.Bool.{cases_order, false≢true}
use Rattle.ir_tree.specs.declared.operand.Symbol.{Symbol}
use Rattle.lto_sets.specs.Sets.{contains as is_member}
use Rattle.combined_index.specs.Finals.{NoneTaken, final_name, final_names, name_where, suffix_at}
use Rattle.merge_meaning.specs.Linked.{AreFinal}
use Rattle.merge_meaning.specs.Merged.{merged_globals}
use Rattle.merge_meaning.proofs.Emission.{emission_emitted}
use Rattle.merge_meaning.proofs.Looked.{some_is}
use Rattle.merge_meaning.proofs.Once.{merged_once}
use Rattle.merge_meaning.proofs.Prevailing.{symbol_by_parts}
use Rattle.link_one.specs.MeaningLaws.{LiveIsEmitted}
use Rattle.merge_meaning.specs.Lives.{final_symbol, is_live}
use Rattle.link_one.proofs.Lives.{live_at, live_closed}

-- a live symbol stands among the final names with its own
named_at : (suffixes : List (List ℕ)) (symbols : List Symbol) (live : List Bool) (n : ℕ) (s : Symbol) → slice_get symbols n ≡ Some s → is_member live n ≡ true
    → slice_get (final_names suffixes symbols live) n ≡ Some (Some (final_name suffixes s))
named_at suffixes [] live n s at on = absurd (cc at)
named_at suffixes (t ∷ symbols) [] n s at on = absurd (false≢true on)
named_at suffixes (t ∷ symbols) (mark ∷ live) zero s at on =
    ap (λ (b : Bool). Some (name_where suffixes t b)) on ∙ ap (λ (u : Symbol). Some (Some (final_name suffixes u))) (some_is t s at)
named_at suffixes (t ∷ symbols) (mark ∷ live) (suc n) s at on = named_at suffixes symbols live n s at on

module _ (suffixes : List (List ℕ)) (symbols : List Symbol) (live : List Bool) (none : NoneTaken (final_names suffixes symbols live)) where
  -- so no two live symbols have one final name
  pub one_symbol : (s u : Symbol) → is_live symbols live s ≡ true → is_live symbols live u ≡ true → final_symbol suffixes s ≡ final_symbol suffixes u → s ≡ u
  one_symbol s u a b e = by (live_at symbols live s a) (live_at symbols live u b)
    where
      same : final_name suffixes s ≡ final_name suffixes u
      same = ap (λ (x : Symbol). x.name) e

      by : ((n : ℕ) × (slice_get symbols n ≡ Some s) × (is_member live n ≡ true)) → ((n : ℕ) × (slice_get symbols n ≡ Some u) × (is_member live n ≡ true)) → s ≡ u
      by (i, at_i, on_i) (j, at_j, on_j) = either (cases_order i j)
        where
          named_s : slice_get (final_names suffixes symbols live) i ≡ Some (Some (final_name suffixes s))
          named_s = named_at suffixes symbols live i s at_i on_i

          named_u : slice_get (final_names suffixes symbols live) j ≡ Some (Some (final_name suffixes s))
          named_u = named_at suffixes symbols live j u at_j on_j ∙ ap (λ (name : List ℕ). Some (Some name)) (sym same)

          either : (i ≡ j) ⊎ ((i < j) ⊎ (j < i)) → s ≡ u
          either (inl e) = some_is s u (sym at_i ∙ subst (λ (n : ℕ). slice_get symbols n ≡ Some u) (sym e) at_j)
          either (inr (inl before)) = absurd (none (final_name suffixes s) (i, j, before, named_s, named_u))
          either (inr (inr behind)) = absurd (none (final_name suffixes s) (j, i, behind, named_u, named_s))

  are_final : AreFinal (is_live symbols live) (final_symbol suffixes)
  are_final = record {
    keeps = λ s home. symbol_by_parts (final_symbol suffixes s) s (sym home) (ap (λ (o : Option ℕ). s.name ++ suffix_at suffixes o) home ∙ append-nil s.name);
    apart = one_symbol;
  }

pub live_emitted : LiveIsEmitted
live_emitted ms exports limit index live imports suffixes whole link none =
    emission_emitted (is_live index.symbols live) (final_symbol suffixes) (merged_globals ms) (merged_once ms whole)
    (live_closed ms exports limit index live imports whole link) (are_final suffixes index.symbols live none)
