-- What linkages say (LangRef, "Linkage Types").
use Rattle.std.specs.Prelude.{Bool, true, false}
use Rattle.ir_tree.specs.declared.function.Linkage.{Linkage}
use Rattle.ir_tree.specs.declared.function.Linkage.TheVariants as linkage

-- other modules don't see the name
abbrev pub is_local : Linkage → Bool
is_local linkage.Private = true
is_local linkage.Internal = true
is_local linkage.External = false
is_local linkage.Linkonce = false
is_local linkage.LinkonceOdr = false
is_local linkage.Weak = false
is_local linkage.WeakOdr = false
is_local linkage.AvailableExternally = false

-- a body that is available externally counts as a declaration
abbrev pub defines : Linkage → Bool
defines linkage.Private = true
defines linkage.Internal = true
defines linkage.External = true
defines linkage.Linkonce = true
defines linkage.LinkonceOdr = true
defines linkage.Weak = true
defines linkage.WeakOdr = true
defines linkage.AvailableExternally = false

-- whoever runs the program may put another body in its place
abbrev pub is_replaceable : Linkage → Bool
is_replaceable linkage.Private = false
is_replaceable linkage.Internal = false
is_replaceable linkage.External = false
is_replaceable linkage.Linkonce = true
is_replaceable linkage.LinkonceOdr = false
is_replaceable linkage.Weak = true
is_replaceable linkage.WeakOdr = false
is_replaceable linkage.AvailableExternally = false
