-- Units offer all that others refer to: what isn't local to a module, and the locals that bodies name which other modules import.
use Rattle.std.proofs.Common.{◌≡◌, ◌≢◌, ◌∙◌, ◌⊎◌, inl, inr, ◌<◌, ◌+◌, not, ℕ, zero, suc, Bool, true, false, List, [], ◌∷◌, ◌++◌, append-nil, length, map, filter, flat_map, All, Option, Some, None, option_map, slice_get, refl, sym, ap, subst, arith}
use Rattle.std.proofs.lemmas.Bool.{cases_order, eq-eqb}
use Rattle.std.proofs.lemmas.List.Elements.{All-contains, Contains-append_left, Contains-append_right, Contains-get_or}
use Rattle.std.proofs.lemmas.List.FromFn.{get_or-range_with_len, length-range_with_len}
use Rattle.std.proofs.lemmas.Option.{get_or_from_slice_get, slice_get-get_or, slice_get_within}
use Rattle.std.proofs.lemmas.Slice.Eq.{bytes_eq-Decides}
use Rattle.std.specs.List.{AllZip, Contains, range_with_len}
use Rattle.std.specs.Prelude.{slice_index_or}
use Rattle.std.specs.Str.{bytes_eq}
use Rattle.ir_tree.specs.Linkages.{is_local}
use Rattle.ir_tree.specs.Wholes.{GlobalKnown, GlobalSound, IsVerified, global_symbol, symbols as all_symbols}
use Rattle.ir_tree.specs.declared.function.Function.{Function}
use Rattle.ir_tree.specs.declared.module.GlobalValue.{GlobalValue}
use Rattle.ir_tree.specs.declared.module.GlobalValue.TheVariants as global
use Rattle.ir_tree.specs.declared.module.Module.{Module}
use Rattle.ir_tree.specs.declared.operand.Symbol.{Symbol}
use Rattle.ir_summary.specs.References.{global_names}
use Rattle.ir_meaning.specs.Programs.{shared, symbol_of}
use Rattle.combined_index.specs.Combined.{prevailing_of}
use Rattle.combined_index.specs.Entries.{is_module}
use Rattle.combined_index.specs.Indexed.{symbol_at}
use Rattle.combined_index.specs.declared.definition.Definition.{Definition as Listed}
use Rattle.combined_index.proofs.Sources.{find_one}
use Rattle.combined_index.specs.Liveness.{refs, refs_of}
use Rattle.lto_task.specs.declared.piece.Piece.{Piece}
use Rattle.combined_index.specs.Finals.{final_name}
use Rattle.combined_index.specs.Promotions.{ArePromoted, IsPromoted}
use Rattle.merge_meaning.specs.Globals.{global_under, named_by}
use Rattle.merge_meaning.specs.Laws.{AllWhole}
use Rattle.merge_meaning.specs.Lives.{final_symbol, is_live, parts}
use Rattle.merge_meaning.specs.Merged.{local_to, symbol_in}
use Rattle.merge_meaning.proofs.Emission.{symbol_under}
use Rattle.merge_meaning.proofs.Looked.{same_symbol, some_is}
use Rattle.merge_meaning.proofs.Prevailing.{symbol_by_parts}
use Rattle.merge_meaning.proofs.Reordered.{contained, contains}
use Rattle.merge_meaning.proofs.Standing.{in_filter, in_joined, in_map, joined_from, map_from, nothing}
use Rattle.merge_meaning.proofs.References.{known_more, names_known}
use Rattle.thin_link.proofs.Indices.{one_number}
use Rattle.back_end.specs.Laws.{MadeHasInterface}
use Rattle.back_end.proofs.Offered.{IsAmong, among}
use Rattle.emit.specs.Emissions.{settled}
use Rattle.emit.specs.Strips.{ModulePieces, OfferEnough}
use Rattle.importer.specs.Brought.{brought, joined, names_of, value_of}
use Rattle.importer.proofs.OfParts.{brought_stands}
use Rattle.importer.proofs.Found.{found_from, in_found}
use Rattle.importer.proofs.Members.{Stands, all_of, behind, contained as stands_contained, either_part, of_each, standing, zip_back}
use Rattle.importer.proofs.Places.{placed}
use Rattle.link_one.specs.Linked.{AreCompiled, IsLinkedGlobal, bodies_for}
use Rattle.link_one.specs.Units.{IsSettledPiece, linkage_in, shown}
use Rattle.link_one.proofs.Printed.{AreAllPrinted, IsPrinted}
use Rattle.link_one.proofs.Compiling.{AreAmong}
use Rattle.link_one.proofs.Finals.{one_symbol}
use Rattle.link_one.proofs.Imported.{imported_lives, imported_within, module_listed}
use Rattle.link_one.proofs.Indexed.{comes}
use Rattle.link_one.proofs.Knowing.{Follows, value_follows}
use Rattle.link_one.proofs.Linkable.{Compilation, MakingLaws, all_whole, lives, parts_known, parts_sound, together}
use Rattle.link_one.proofs.Lives.{live_at}
use Rattle.link_one.proofs.LiveRefining.{exported_live}
use Rattle.link_one.proofs.Named.{Names, names_under}
use Rattle.link_one.proofs.Origins.{Origin, final_in, local_stays, local_symbol, named_home, named_lives, named_refers, part_origin}

-- ---- lists

in_range : (n size : ℕ) → n < size → Contains (range_with_len 0 size) n
in_range n size below =
    let within : n < length (range_with_len 0 size) = subst (λ (m : ℕ). n < m) (sym (length-range_with_len 0 size)) below in
    let same : 0 + n ≡ n = omega arith in
    subst (λ (m : ℕ). Contains (range_with_len 0 size) m) (get_or-range_with_len 0 size n 0 below ∙ same) (Contains-get_or (range_with_len 0 size) n 0 within)

-- ---- what is compiled

pub linked_symbol : MadeHasInterface → (bodies : List ℕ → Option Function) (g h : GlobalValue) → IsLinkedGlobal bodies g h → global_symbol h ≡ global_symbol g
linked_symbol interface bodies (global.Variable v) (global.Variable w) made = ap (λ (x : GlobalValue). global_symbol x) (ap global.Variable made)
linked_symbol interface bodies (global.Function f) (global.Function g) made = (interface bodies f g made).symbol
linked_symbol interface bodies (global.Variable v) (global.Function g) made = absurd made
linked_symbol interface bodies (global.Function f) (global.Variable w) made = absurd made

pub settled_symbol : (exports : List (List ℕ)) (h : GlobalValue) → global_symbol (settled exports h) ≡ global_symbol h
settled_symbol exports (global.Variable v) = refl
settled_symbol exports (global.Function f) = refl

settled_names : (exports : List (List ℕ)) (h : GlobalValue) → global_names (settled exports h) ≡ global_names h
settled_names exports (global.Variable v) = refl
settled_names exports (global.Function f) = refl

module _ (laws : MakingLaws) (exports : List (List ℕ)) (import_limit inline_limit : ℕ) (suffixes : List (List ℕ)) (ms : List Module) (verified : All IsVerified ms)
    (c : Compilation exports import_limit inline_limit suffixes ms) (promoted : List (List ℕ)) (promotion : ArePromoted c.index c.imports promoted) where
  abbrev symbols : List Symbol
  symbols = c.index.symbols

  abbrev lives_of : Symbol → Bool
  lives_of = is_live symbols c.live

  abbrev whole : AllWhole ms
  whole = all_whole ms verified

  abbrev of_parts : List (List GlobalValue)
  of_parts = parts ms symbols c.live suffixes

  abbrev everything : List GlobalValue
  everything = joined of_parts

  abbrev bodies_in : ℕ → List GlobalValue → List ℕ → Option Function
  bodies_in i part = bodies_for inline_limit everything symbols suffixes (slice_index_or c.imports i []) part

  -- ---- what a unit has, by its place

  record Placed (i : ℕ) (u : ModulePieces) : Type 0 where
    pub part : List GlobalValue
    pub unit : List GlobalValue
    pub at : slice_get of_parts i ≡ Some part
    pub made : AllZip (IsLinkedGlobal (bodies_in i part)) part unit
    pub printed : IsPrinted exports symbols suffixes (slice_index_or promoted i []) part unit u

  abbrev PlacedFrom : ℕ → List (List GlobalValue) → ℕ → ModulePieces → Type 0
  PlacedFrom k ps i u =
      (part : List GlobalValue) × (unit : List GlobalValue) × (slice_get ps i ≡ Some part) × AllZip (IsLinkedGlobal (bodies_in (i + k) part)) part unit
      × IsPrinted exports symbols suffixes (slice_index_or promoted (i + k) []) part unit u

  place : (k : ℕ) (ps units : List (List GlobalValue)) (us : List ModulePieces) → AreCompiled inline_limit everything symbols suffixes c.imports k ps units
      → AreAllPrinted exports symbols suffixes promoted k ps units us → (i : ℕ) (u : ModulePieces) → slice_get us i ≡ Some u → PlacedFrom k ps i u
  place k [] [] [] made printed i u e = absurd (cc e)
  place k [] [] (v ∷ us) made printed i u e = absurd printed
  place k [] (unit ∷ units) us made printed i u e = absurd made
  place k (part ∷ ps) [] us made printed i u e = absurd made
  place k (part ∷ ps) (unit ∷ units) [] made printed i u e = absurd printed
  place k (part ∷ ps) (unit ∷ units) (v ∷ us) made printed zero u e =
      let number : k ≡ 0 + k = omega arith in (
        part,
        unit,
        refl,
        subst (λ (n : ℕ). AllZip (IsLinkedGlobal (bodies_in n part)) part unit) number made.0,
        subst (λ (n : ℕ). IsPrinted exports symbols suffixes (slice_index_or promoted n []) part unit u) number
            (subst (IsPrinted exports symbols suffixes (slice_index_or promoted k []) part unit) (some_is v u e) printed.0),
      )
  place k (part ∷ ps) (unit ∷ units) (v ∷ us) made printed (suc i) u e =
      let rest = place (suc k) ps units us made.1 printed.1 i u e in
      let number : i + suc k ≡ suc i + k = omega arith in (
        rest.0,
        rest.1,
        rest.2,
        subst (λ (n : ℕ). AllZip (IsLinkedGlobal (bodies_in n rest.0)) rest.0 rest.1) number rest.3,
        subst (λ (n : ℕ). IsPrinted exports symbols suffixes (slice_index_or promoted n []) rest.0 rest.1 u) number rest.4,
      )

  placed_at : (us : List ModulePieces) → AreAllPrinted exports symbols suffixes promoted 0 of_parts c.units us → (i : ℕ) (u : ModulePieces) → slice_get us i ≡ Some u → Placed i u
  placed_at us printed i u e =
      let found = place 0 of_parts c.units us c.compiled printed i u e in
      let number : i + 0 ≡ i = omega arith in
      record {
        part = found.0;
        unit = found.1;
        at = found.2;
        made = subst (λ (n : ℕ). AllZip (IsLinkedGlobal (bodies_in n found.0)) found.0 found.1) number found.3;
        printed = subst (λ (n : ℕ). IsPrinted exports symbols suffixes (slice_index_or promoted n []) found.0 found.1 u) number found.4;
      }

  -- ---- what a piece is of

  record From (i : ℕ) (u : ModulePieces) (p : Piece) : Type 0 where
    pub place : Placed i u
    pub g : GlobalValue
    pub h : GlobalValue
    pub stands : Stands place.part g
    pub made : IsLinkedGlobal (bodies_in i place.part) g h
    pub piece : IsSettledPiece exports h p
    pub m : Module
    pub raw : GlobalValue
    pub origin : Origin ms symbols c.live i m raw
    pub is : g ≡ global_under (named_by (final_in suffixes i m)) raw

  piece_from : (i : ℕ) (u : ModulePieces) (p : Piece) → Placed i u → Contains u.pieces p → From i u p
  piece_from i u p at there =
      let h = zip_back (IsSettledPiece exports) at.unit u.pieces p at.printed.pieces_are (standing u.pieces p there) in
      let g = zip_back (IsLinkedGlobal (bodies_in i at.part)) at.part at.unit h.0 at.made h.1 in
      let origin = part_origin ms symbols c.live suffixes i at.part g.0 at.at (stands_contained at.part g.0 g.1) in
      record { place = at; g = g.0; h = h.0; stands = g.1; made = g.2; piece = h.2; m = origin.0; raw = origin.1; origin = origin.2; is = origin.3 }

  -- its name is that of the value, and the final name of the definition
  value_name : (i : ℕ) (u : ModulePieces) (p : Piece) (f : From i u p) → p.name ≡ (symbol_of f.g).name
  value_name i u p f =
      f.piece.name ∙ ap (λ (s : Symbol). s.name) (settled_symbol exports f.h ∙ linked_symbol laws.interface (bodies_in i f.place.part) f.g f.h f.made ∙ sym (same_symbol f.g))

  final_value : (i : ℕ) (m : Module) (g raw : GlobalValue) → g ≡ global_under (named_by (final_in suffixes i m)) raw → symbol_of g ≡ final_in suffixes i m (symbol_of raw)
  final_value i m g raw is = ap symbol_of is ∙ symbol_under (named_by (final_in suffixes i m)) raw

  -- what isn't local is offered
  offered : (i : ℕ) (u : ModulePieces) (p : Piece) (f : From i u p) → is_local (linkage_in f.g) ≡ false → Contains u.offers p.name
  offered i u p f seen =
      subst (λ (l : List (List ℕ)). Contains l p.name) (sym f.place.printed.offers_are)
      (Contains-append_left (shown f.place.part) (names_of symbols suffixes (slice_index_or promoted i [])) p.name
      (subst (Contains (shown f.place.part)) (sym (value_name i u p f))
      (in_map (λ (g : GlobalValue). (symbol_of g).name) (filter (λ (g : GlobalValue). not (is_local (linkage_in g))) f.place.part) f.g
      (in_filter (λ (g : GlobalValue). not (is_local (linkage_in g))) f.place.part f.g (stands_contained f.place.part f.g f.stands) (ap not seen)))))

  -- the symbol of a local
  own_name : (i : ℕ) (u : ModulePieces) (p : Piece) (f : From i u p) → is_local (linkage_in f.g) ≡ true → symbol_in i f.m.globals (symbol_of f.raw) ≡ local_to i (symbol_of f.raw).name
  own_name i u p f local = local_symbol ms whole symbols c.live i f.m f.raw f.origin (local_stays (final_in suffixes i f.m) f.g f.raw f.is local)

  -- ---- exported names

  exported_offered : (i : ℕ) (u : ModulePieces) (p : Piece) → From i u p → Contains exports p.name → Contains u.offers p.name
  exported_offered i u p f export = by (is_local (linkage_in f.g)) refl
    where
      by : (b : Bool) → is_local (linkage_in f.g) ≡ b → Contains u.offers p.name
      by false e = offered i u p f e
      by true e =
          let final : final_symbol suffixes (symbol_in i f.m.globals (symbol_of f.raw)) ≡ final_symbol suffixes (shared p.name) =
          sym (final_value i f.m f.g f.raw f.is)
          ∙ symbol_by_parts (symbol_of f.g) (final_symbol suffixes (shared p.name)) (ap (λ (s : Symbol). s.home) (final_value i f.m f.g f.raw f.is)) (sym (value_name i u p f) ∙ sym (append-nil p.name)) in
          let same : symbol_in i f.m.globals (symbol_of f.raw) ≡ shared p.name =
          one_symbol suffixes symbols c.live c.named (symbol_in i f.m.globals (symbol_of f.raw)) (shared p.name) f.origin.alive
          (exported_live ms exports import_limit c.index c.live c.imports c.thin p.name export) final in
          let homes : ◌≡◌ {A = Option ℕ} (Some i) None = ap (λ (s : Symbol). s.home) (sym (own_name i u p f e) ∙ same) in
          absurd (cc homes)

  -- ---- what a piece refers to

  -- the values whose bodies it may be made of
  abbrev sources : ℕ → List GlobalValue → List GlobalValue
  sources i part = brought everything symbols suffixes (slice_index_or c.imports i []) ++ part

  abbrev named_symbols : GlobalValue → List Symbol
  named_symbols g = map shared (global_names g)

  part_stands : (i : ℕ) (part : List GlobalValue) (g : GlobalValue) → slice_get of_parts i ≡ Some part → Stands part g → Stands everything g
  part_stands i part g at s =
      standing everything g (in_joined (λ (gs : List GlobalValue). gs) of_parts part g (contains of_parts i part at) (stands_contained part g s))

  source_stands : (i : ℕ) (part : List GlobalValue) (g : GlobalValue) → slice_get of_parts i ≡ Some part → Stands (sources i part) g → Stands everything g
  source_stands i part g at s = elim (either_part (brought everything symbols suffixes (slice_index_or c.imports i [])) part g s) [
    | inl from ↦ brought_stands everything symbols suffixes (slice_index_or c.imports i []) g from
    | inr mine ↦ part_stands i part g at mine
  ]

  source_known : (i : ℕ) (part : List GlobalValue) → slice_get of_parts i ≡ Some part → All (GlobalKnown (flat_map named_symbols (sources i part))) (sources i part)
  source_known i part at =
      all_of (GlobalKnown (flat_map named_symbols (sources i part))) (sources i part)
      (λ g s.
      known_more (all_symbols (lives laws exports import_limit inline_limit suffixes ms verified c)) (flat_map named_symbols (sources i part)) g
      (of_each (GlobalKnown (all_symbols (lives laws exports import_limit inline_limit suffixes ms verified c))) everything g (parts_known laws exports import_limit inline_limit suffixes ms verified c) (source_stands i part g at s))
      (λ x there named.
      let plain : shared x.name ≡ x =
      symbol_by_parts (shared x.name) x
      (sym (All-contains (λ (y : Symbol). y.home ≡ None) (all_symbols (lives laws exports import_limit inline_limit suffixes ms verified c)) x (together laws exports import_limit inline_limit suffixes ms verified c).homeless there)) refl in
      in_joined named_symbols (sources i part) g x (stands_contained (sources i part) g s)
      (subst (Contains (named_symbols g)) plain (in_map shared (global_names g) x.name named))))

  source_sound : (i : ℕ) (part : List GlobalValue) → slice_get of_parts i ≡ Some part → All GlobalSound (sources i part)
  source_sound i part at =
      all_of GlobalSound (sources i part)
      (λ g s. of_each GlobalSound everything g (parts_sound laws exports import_limit inline_limit suffixes ms verified c) (source_stands i part g at s))

  bodies_from : (i : ℕ) (part : List GlobalValue) → AreAmong inline_limit (sources i part) (bodies_in i part)
  bodies_from i part name f e = let a : IsAmong inline_limit (sources i part) f = among inline_limit (sources i part) name f e in ((a.place, a.here), a.may)

  -- each name that a piece refers to is named by one of these
  refers_from : (i : ℕ) (u : ModulePieces) (p : Piece) (f : From i u p) (name : List ℕ) → Contains p.refs name → (g : GlobalValue) × Stands (sources i f.place.part) g × Contains (global_names g) name
  refers_from i u p f name refers =
      let part : List GlobalValue = f.place.part in
      let known : List Symbol = flat_map named_symbols (sources i part) in
      let names : Contains (global_names f.h) name = subst (λ (l : List (List ℕ)). Contains l name) (settled_names exports f.h) ((f.piece.refers name).0 refers) in
      let follows : Follows known f.g f.h =
      value_follows laws.interface laws.sounds laws.knows inline_limit (sources i part) known (source_sound i part f.place.at) (source_known i part f.place.at) (bodies_in i part) (bodies_from i part) f.g f.h
      (behind (brought everything symbols suffixes (slice_index_or c.imports i [])) part f.g f.stands) f.made in
      let s = names_known known f.h follows.knows name names in
      let from = joined_from named_symbols (sources i part) s.0 s.1 in
      let told = map_from shared (global_names from.0) s.0 from.2 in
      let same : told.0 ≡ name = ap (λ (x : Symbol). x.name) told.2 ∙ s.2 in
      (from.0, standing (sources i part) from.0 from.1, subst (Contains (global_names from.0)) same told.1)

  -- ---- locals that others refer to

  module _ (k : ℕ) (v : ModulePieces) (q : Piece) (to : From k v q) (local : is_local (linkage_in to.g) ≡ true) where
    abbrev target : Symbol
    target = symbol_in k to.m.globals (symbol_of to.raw)

    target_home : target.home ≡ Some k
    target_home = ap (λ (s : Symbol). s.home) (own_name k v q to local)

    target_final : final_symbol suffixes target ≡ symbol_of to.g
    target_final = sym (final_value k to.m to.g to.raw to.is)

    -- a value of a part that has the name names this local
    record NamesTarget (j : ℕ) (m : Module) (raw : GlobalValue) : Type 0 where
      pub s : Symbol
      pub names : Names raw s
      pub is : symbol_in j m.globals s ≡ target

    names_target : (j : ℕ) (m : Module) (raw g : GlobalValue) → Origin ms symbols c.live j m raw → g ≡ global_under (named_by (final_in suffixes j m)) raw → Contains (global_names g) q.name → NamesTarget j m raw
    names_target j m raw g o is there =
        let found = names_under (named_by (final_in suffixes j m)) raw q.name (subst (λ (x : GlobalValue). Contains (global_names x) q.name) is there) in
        let final : final_symbol suffixes (symbol_in j m.globals found.0) ≡ final_symbol suffixes target =
        symbol_by_parts (final_symbol suffixes (symbol_in j m.globals found.0)) (final_symbol suffixes target) refl
        (found.1 ∙ value_name k v q to ∙ ap (λ (s : Symbol). s.name) (sym target_final)) in
        record {
          s = found.0;
          names = found.2;
          is =
              one_symbol suffixes symbols c.live c.named (symbol_in j m.globals found.0) target
              (named_lives ms exports import_limit c.index c.live c.imports whole c.thin j m raw o found.0 found.2) to.origin.alive final;
        }

    same_module : (j : ℕ) (m : Module) (raw : GlobalValue) → Origin ms symbols c.live j m raw → NamesTarget j m raw → j ≡ k
    same_module j m raw o t =
        named_home ms exports import_limit c.index c.live c.imports whole c.thin j m raw o t.s k t.names (ap (λ (s : Symbol). s.home) t.is ∙ target_home)

    -- its number
    number : (n : ℕ) × (slice_get symbols n ≡ Some target)
    number = let at = live_at symbols c.live target to.origin.alive in (at.0, at.1)

    number_within : number.0 < length symbols
    number_within = slice_get_within symbols number.0 target number.1

    number_is : symbol_at symbols number.0 ≡ target
    number_is = get_or_from_slice_get symbols number.0 target (record { home = None; name = [] }) number.1

    -- a function whose body names it refers to its number in the index
    refers_in_index : (j : ℕ) (m : Module) (raw : GlobalValue) → Origin ms symbols c.live j m raw → (f : ℕ) → slice_get symbols f ≡ Some (symbol_in j m.globals (symbol_of raw)) → NamesTarget j m raw
        → (d : Listed) × (prevailing_of c.index f ≡ Some d) × Contains d.refs number.0
    refers_in_index j m raw o f at t = by (prevailing_of c.index f) refl found.1
      where
        found : (r : ℕ) × Contains (refs c.index f) r × (symbol_at symbols r ≡ symbol_in j m.globals t.s)
        found = named_refers ms exports import_limit c.index c.live c.imports whole c.thin j m raw o f at t.s t.names

        by : (l : Option Listed) → prevailing_of c.index f ≡ l → Contains (refs_of l) found.0 → (d : Listed) × (prevailing_of c.index f ≡ Some d) × Contains d.refs number.0
        by None e refers = absurd (nothing found.0 refers)
        by (Some d) e refers =
            let h = comes ms whole c.index c.thin.combined f d e in
            let below : found.0 < length symbols = All-contains (λ (r : ℕ). r < length symbols) d.refs found.0 h.within.refs refers in
            let one : found.0 ≡ number.0 = one_number symbols c.thin.combined.index.distinct found.0 number.0 below number_within (found.2 ∙ t.is ∙ sym number_is) in
            (d, e, subst (Contains d.refs) one refers)

    -- what another module's imports make it refer to is offered
    promoted_offered : (i f : ℕ) → i ≢ k → Contains (slice_index_or c.imports i []) f → (d : Listed) → prevailing_of c.index f ≡ Some d → Contains d.refs number.0 → Contains v.offers q.name
    promoted_offered i f other imported d prevails refers =
        let ds = module_listed ms exports import_limit c.index c.live c.imports whole c.thin k to.m to.origin.given.number in
        let below : k < length c.index.modules = slice_get_within c.index.modules k ds.0 ds.1 in
        let list = promotion.promoted k below in
        let is : IsPromoted c.index c.imports k number.0 = record {
          local = ap (λ (s : Symbol). is_module k s.home) number_is ∙ ap (is_module k) target_home ∙ eq-eqb k k refl;
          importer = i;
          other = other;
          function = f;
          imported = imported;
          body = d;
          prevails = prevails;
          refers = refers;
        } in
        let there : Contains (slice_index_or promoted k []) number.0 =
        subst (λ (l : List ℕ). Contains l number.0) (sym list.list_is)
        (in_filter list.test (range_with_len 0 (length symbols)) number.0 (in_range number.0 (length symbols) number_within) ((list.decides number.0).1 is)) in
        let name : final_name suffixes target ≡ q.name = ap (λ (s : Symbol). s.name) target_final ∙ sym (value_name k v q to) in
        subst (λ (l : List (List ℕ)). Contains l q.name) (sym to.place.printed.offers_are)
        (Contains-append_right (shown to.place.part) (names_of symbols suffixes (slice_index_or promoted k [])) q.name
        (in_found (λ (n : ℕ). option_map (final_name suffixes) (slice_get symbols n)) (slice_index_or promoted k []) number.0 q.name there
        (ap (option_map (final_name suffixes)) number.1 ∙ ap (λ (n : List ℕ). Some n) name)))

    -- an imported body that has the name makes the local a promoted one
    brought_offered : (i : ℕ) → i ≢ k → (g : GlobalValue) → Contains (brought everything symbols suffixes (slice_index_or c.imports i [])) g → Contains (global_names g) q.name → Contains v.offers q.name
    brought_offered i other g there names =
        let found = found_from (λ (n : ℕ). value_of everything suffixes (slice_get symbols n)) (slice_index_or c.imports i []) g there in
        let below : found.0 < length symbols = imported_within ms exports import_limit c.index c.live c.imports whole c.thin i found.0 found.1 in
        let s : Symbol = symbol_at symbols found.0 in
        let at : slice_get symbols found.0 ≡ Some s = slice_get-get_or symbols found.0 (record { home = None; name = [] }) below in
        let looked = find_one (λ (x : GlobalValue). bytes_eq (symbol_of x).name (final_name suffixes s)) everything g (sym (ap (value_of everything suffixes) at) ∙ found.2) in
        let part = joined_from (λ (gs : List GlobalValue). gs) of_parts g looked.0 in
        let origin = part_origin ms symbols c.live suffixes part.1.0 part.0 g (contained of_parts part.1.0 part.0 part.1.1 part.1.2) part.2 in
        let own : symbol_in part.1.0 origin.0.globals (symbol_of origin.1) ≡ s =
        one_symbol suffixes symbols c.live c.named (symbol_in part.1.0 origin.0.globals (symbol_of origin.1)) s origin.2.alive
        (imported_lives ms exports import_limit c.index c.live c.imports whole c.thin i found.0 found.1)
        (symbol_by_parts (final_symbol suffixes (symbol_in part.1.0 origin.0.globals (symbol_of origin.1))) (final_symbol suffixes s) refl
        (ap (λ (x : Symbol). x.name) (sym (final_value part.1.0 origin.0 g origin.1 origin.3)) ∙ (bytes_eq-Decides (symbol_of g).name (final_name suffixes s)).0 looked.1)) in
        let target_named = names_target part.1.0 origin.0 origin.1 g origin.2 origin.3 names in
        let indexed = refers_in_index part.1.0 origin.0 origin.1 origin.2 found.0 (at ∙ ap (λ (x : Symbol). Some x) (sym own)) target_named in
        promoted_offered i found.0 other found.1 indexed.0 indexed.1 indexed.2

    local_offered : (i : ℕ) (u : ModulePieces) (p : Piece) → From i u p → Contains p.refs q.name → (i ≡ k) ⊎ Contains v.offers q.name
    local_offered i u p f refers =
        let from = refers_from i u p f q.name refers in
        elim (either_part (brought everything symbols suffixes (slice_index_or c.imports i [])) f.place.part from.0 from.1) [
          | inr mine ↦
              let origin = part_origin ms symbols c.live suffixes i f.place.part from.0 f.place.at (stands_contained f.place.part from.0 mine) in
              inl (same_module i origin.0 origin.1 origin.2 (names_target i origin.0 origin.1 from.0 origin.2 origin.3 from.2))
          | inl imported ↦
              let there : Contains (brought everything symbols suffixes (slice_index_or c.imports i [])) from.0 = stands_contained (brought everything symbols suffixes (slice_index_or c.imports i [])) from.0 imported in
              elim (cases_order i k) [
                | inl same ↦ inl same
                | inr apart ↦ inr (brought_offered i (elim apart [ inl less ↦ λ e. absurd (omega (arith, less, e)) | inr more ↦ λ e. absurd (omega (arith, more, e)) ]) from.0 there from.2)
              ]
        ]

  -- ---- all of them

  module _ (us : List ModulePieces) (printed : AreAllPrinted exports symbols suffixes promoted 0 of_parts c.units us) where
    from_at : (i : ℕ) (u : ModulePieces) (p : Piece) → slice_get us i ≡ Some u → Contains u.pieces p → From i u p
    from_at i u p at there = piece_from i u p (placed_at us printed i u at) there

    referred_offered : (i k : ℕ) (u v : ModulePieces) (p q : Piece) → slice_get us i ≡ Some u → slice_get us k ≡ Some v → Contains u.pieces p → Contains v.pieces q → Contains p.refs q.name
        → (i ≡ k) ⊎ Contains v.offers q.name
    referred_offered i k u v p q at_i at_k there mine refers = by (is_local (linkage_in to.g)) refl
      where
        to : From k v q
        to = from_at k v q at_k mine

        by : (b : Bool) → is_local (linkage_in to.g) ≡ b → (i ≡ k) ⊎ Contains v.offers q.name
        by false e = inr (offered k v q to e)
        by true e = local_offered k v q to e i u p (from_at i u p at_i there) refers

    pub offer_enough : OfferEnough exports us
    offer_enough = record {
      exported = λ u p at there export.
          let place = placed us u at in
          exported_offered place.0 u p (from_at place.0 u p place.1 there) export;
      referred = referred_offered;
    }
