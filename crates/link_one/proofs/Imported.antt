-- What a module imports is live, since live definitions call it.
use Rattle.std.proofs.Common.{◌≡◌, ◌∙◌, ◌<◌, ◌+◌, ℕ, zero, suc, Bool, true, List, [], ◌∷◌, length, map, Option, Some, None, slice_get, refl, sym, ap, arith}
use Rattle.std.proofs.lemmas.List.Elements.{All-contains}
use Rattle.std.proofs.lemmas.Option.{slice_get-get_or, slice_get_within}
use Rattle.std.specs.List.{Contains}
use Rattle.std.specs.Prelude.{slice_index_or}
use Rattle.ir_tree.specs.declared.module.Module.{Module}
use Rattle.ir_tree.specs.declared.operand.Symbol.{Symbol}
use Rattle.ir_summary.specs.Summaries.{summaries}
use Rattle.symbol_resolve.specs.Resolved.{symbols}
use Rattle.ir_meaning.specs.Programs.{shared}
use Rattle.combined_index.specs.Combined.{Combined, prevailing_of}
use Rattle.combined_index.specs.Entries as entries
use Rattle.combined_index.specs.Indexed.{named, symbol_at}
use Rattle.combined_index.specs.declared.definition.Definition.{Definition}
use Rattle.merge_meaning.specs.Laws.{AllWhole}
use Rattle.merge_meaning.specs.Lives.{is_live}
use Rattle.merge_meaning.proofs.Once.{mapped}
use Rattle.merge_meaning.proofs.Standing.{in_map, nothing}
use Rattle.thin_link.specs.Chains.{Chain, begins, callees_of, goes_on}
use Rattle.thin_link.specs.Linking.{IsThinLink}
use Rattle.thin_link.specs.Plans.{definitions_at}
use Rattle.link_one.proofs.Indexed.{Comes, comes, comes_there, entries_at}
use Rattle.link_one.proofs.Lives.{live_there}
use Rattle.link_one.proofs.Origins.{Origin, name_named, named_lives}
use Rattle.link_one.proofs.Summed.{symbol_same}

-- ---- lists by number

-- what is in the list of a number is in a list that there is
pub list_there : {X : Type 0} (xss : List (List X)) (i : ℕ) (x : X) → Contains (slice_index_or xss i []) x → slice_get xss i ≡ Some (slice_index_or xss i [])
list_there [] i x c = absurd (nothing x c)
list_there (xs ∷ xss) zero x c = refl
list_there (xs ∷ xss) (suc i) x c = list_there xss i x c

module _ (ms : List Module) (exports : List (List ℕ)) (limit : ℕ) (index : Combined) (live : List Bool) (imports : List (List ℕ)) (whole : AllWhole ms)
    (thin : IsThinLink ms exports limit index live imports) where
  abbrev lives : Symbol → Bool
  lives = is_live index.symbols live

  abbrev nobody : Symbol
  nobody = record { home = None; name = [] }

  -- the index has a list for each module
  pub module_listed : (k : ℕ) (m : Module) → slice_get ms k ≡ Some m → (ds : List Definition) × (slice_get index.modules k ≡ Some ds)
  module_listed k m at =
      let listed : slice_get (map (λ (ds : List Definition). map (named index.symbols) ds) index.modules) k ≡ Some (entries.entries (symbols ms) (0 + k) (summaries m.globals)) =
      ap (λ (all : List (List entries.Entry)). slice_get all k) thin.combined.entries ∙ entries_at (symbols ms) 0 ms k m at in
      let found = mapped (λ (ds : List Definition). map (named index.symbols) ds) index.modules k (entries.entries (symbols ms) (0 + k) (summaries m.globals)) listed in
      (found.0, found.1)

  -- a live definition's callees are live
  callee_lives : (n : ℕ) (d : Definition) → Comes ms index n d → lives (symbol_at index.symbols n) ≡ true → (g : ℕ) → Contains d.calls g → lives (symbol_at index.symbols g) ≡ true
  callee_lives n d h on g c =
      let o : Origin ms index.symbols live h.k h.m h.g = record { given = h.given; alive = ap lives h.symbol ∙ on } in
      let call = h.calls (symbol_at index.symbols g) (in_map (symbol_at index.symbols) d.calls g c) in
      sym (ap lives (symbol_same h.k h.m.globals call.0 ∙ call.2))
      ∙ named_lives ms exports limit index live imports whole thin h.k h.m h.g o (shared call.0)
      (name_named ms exports limit index live imports whole thin h.k h.m h.g o call.0 call.1)

  chain_lives : (m most k g : ℕ) → Chain index live most (definitions_at index m) k g → lives (symbol_at index.symbols g) ≡ true
  chain_lives m most _ g (begins _ called may) =
      let h = comes_there ms whole index thin.combined m (definitions_at index m) called.caller (list_there index.modules m called.caller called.there) called.there called.prevails in
      let at : slice_get index.symbols called.caller.symbol ≡ Some (symbol_at index.symbols called.caller.symbol) = slice_get-get_or index.symbols called.caller.symbol nobody h.within.symbol in
      callee_lives called.caller.symbol called.caller h (live_there index.symbols live (symbol_at index.symbols called.caller.symbol) called.caller.symbol at called.alive) g called.calls
  chain_lives m most _ g (goes_on k f _ before called may) = by (prevailing_of index f) refl called (chain_lives m most k f before)
    where
      by : (o : Option Definition) → prevailing_of index f ≡ o → Contains (callees_of o) g → lives (symbol_at index.symbols f) ≡ true → lives (symbol_at index.symbols g) ≡ true
      by None e c on = absurd (nothing g c)
      by (Some d) e c on = callee_lives f d (comes ms whole index thin.combined f d e) on g c

  pub imported_lives : (i f : ℕ) → Contains (slice_index_or imports i []) f → lives (symbol_at index.symbols f) ≡ true
  imported_lives i f c =
      let within : i < length imports = slice_get_within imports i (slice_index_or imports i []) (list_there imports i f c) in
      let chain = ((thin.planned.imports i (omega (arith, within, thin.planned.modules))).imported f).0 c in
      chain_lives i limit chain.0 f chain.1

  -- and has a number within the index
  pub imported_within : (i f : ℕ) → Contains (slice_index_or imports i []) f → f < length index.symbols
  imported_within i f c =
      let within : i < length imports = slice_get_within imports i (slice_index_or imports i []) (list_there imports i f c) in
      let chain = ((thin.planned.imports i (omega (arith, within, thin.planned.modules))).imported f).0 c in
      by chain.0 chain.1
    where
      called_within : (n : ℕ) (d : Definition) → Comes ms index n d → Contains d.calls f → f < length index.symbols
      called_within n d h called = All-contains (λ (r : ℕ). r < length index.symbols) d.calls f h.within.calls called

      further : (o : Option Definition) (n : ℕ) → prevailing_of index n ≡ o → Contains (callees_of o) f → f < length index.symbols
      further None n e c = absurd (nothing f c)
      further (Some d) n e c = called_within n d (comes ms whole index thin.combined n d e) c

      by : (k : ℕ) → Chain index live limit (definitions_at index i) k f → f < length index.symbols
      by _ (begins _ called may) =
          called_within called.caller.symbol called.caller
          (comes_there ms whole index thin.combined i (definitions_at index i) called.caller (list_there index.modules i called.caller called.there) called.there called.prevails) called.calls
      by _ (goes_on k n _ before called may) = further (prevailing_of index n) n refl called
