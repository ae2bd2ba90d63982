-- What a link lacks is told in one way, and not where it lacks nothing.
use Rattle.std.proofs.Common.{◌≡◌, ◌∙◌, ◌≤◌, ℕ, List, [], None, sym, ap, subst, arith}
use Rattle.std.proofs.lemmas.Option.{get_or_from_slice_get, slice_get_within}
use Rattle.ir_tree.specs.declared.operand.Symbol.{Symbol}
use Rattle.combined_index.specs.Combined.{Combined, IsIndex}
use Rattle.combined_index.specs.Liveness.{AllExported, IsFirstModule, IsNamed, IsUndefined, IsUnexported, NoneUndefined, Refuses}
use Rattle.combined_index.specs.declared.refused.Refused.{Refused}
use Rattle.combined_index.specs.declared.refused.Refused.TheVariants as lack
use Rattle.thin_link.proofs.Clashing.{one_least}
use Rattle.thin_link.proofs.Indices.{one_number}

pub no_lack : (c : Combined) (exports : List (List ℕ)) (why : Refused) → NoneUndefined c exports → AllExported c exports → Refuses c exports why → ⊥
no_lack c exports (lack.Undefined name k) none all h = none name h.0.one
no_lack c exports (lack.NoExport name) none all h = all name h.1.one

-- a name has one number
one_named : (c : Combined) → IsIndex c → (m n : ℕ) (name : List ℕ) → IsNamed c m name → IsNamed c n name → m ≡ n
one_named c index m n name h g =
    let s : Symbol = record { home = None; name = name } in
    let nobody : Symbol = record { home = None; name = [] } in
    one_number c.symbols index.distinct m n (slice_get_within c.symbols m s h) (slice_get_within c.symbols n s g)
    (get_or_from_slice_get c.symbols m s nobody h ∙ sym (get_or_from_slice_get c.symbols n s nobody g))

one_module : (c : Combined) (exports : List (List ℕ)) (n j k : ℕ) → IsFirstModule c exports n j → IsFirstModule c exports n k → j ≡ k
one_module c exports n j k h g =
    let low : j ≤ k = h.first k g.one in
    let high : k ≤ j = g.first j h.one in
    omega arith

pub one_lack : (c : Combined) → IsIndex c → (exports : List (List ℕ)) (why other : Refused) → Refuses c exports why → Refuses c exports other → why ≡ other
one_lack c index exports (lack.Undefined name j) (lack.Undefined other k) h g =
    let same : name ≡ other = one_least (IsUndefined c exports) name other h.0 g.0 in
    let number : h.1.0 ≡ g.1.0 = one_named c index h.1.0 g.1.0 other (subst (IsNamed c h.1.0) same h.1.1.named) g.1.1.named in
    let modules : j ≡ k = one_module c exports g.1.0 j k (subst (λ (n : ℕ). IsFirstModule c exports n j) number h.1.2) g.1.2 in
    λ i. lack.Undefined (same i) (modules i)
one_lack c index exports (lack.Undefined name j) (lack.NoExport other) h g = absurd (g.0 name h.0.one)
one_lack c index exports (lack.NoExport name) (lack.Undefined other k) h g = absurd (h.0 other g.0.one)
one_lack c index exports (lack.NoExport name) (lack.NoExport other) h g = ap lack.NoExport (one_least (IsUnexported c exports) name other h.1 g.1)
