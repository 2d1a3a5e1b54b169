-- The verbs of the script language (profile).
use Rattle.std.specs.Prelude.{ℕ, List, [], ◌∷◌, Option, codes, find}
use Rattle.std.specs.Str.{bytes_eq}
use Rattle.f11_script.specs.declared.verb.Verb.{Verb}
use Rattle.f11_script.specs.declared.verb.Verb.TheVariants.{Create, Extend, Contiguous, Truncate, Delete, Grow, Access, Close, Release}
use Rattle.f11_script.specs.declared.verb.Verb.TheVariants.{Read, Fill}
use Rattle.f11_script.specs.declared.verb.Verb.TheVariants.{Write, Find, Enter, Remove, Attr, SetAttr, Protect, Space}

-- how it is written
abbrev pub verb_text : Verb → List ℕ
verb_text Create = codes "CREATE"
verb_text Extend = codes "EXTEND"
verb_text Contiguous = codes "CONTIG"
verb_text Truncate = codes "TRUNCATE"
verb_text Delete = codes "DELETE"
verb_text Grow = codes "GROW"
verb_text Access = codes "ACCESS"
verb_text Close = codes "CLOSE"
verb_text Release = codes "RELEASE"
verb_text Read = codes "READ"
verb_text Fill = codes "FILL"
verb_text Write = codes "WRITE"
verb_text Find = codes "FIND"
verb_text Enter = codes "ENTER"
verb_text Remove = codes "REMOVE"
verb_text Attr = codes "ATTR"
verb_text SetAttr = codes "SETATTR"
verb_text Protect = codes "PROTECT"
verb_text Space = codes "SPACE"

abbrev pub all_verbs : List Verb
all_verbs =
    Create ∷ Extend ∷ Contiguous ∷ Truncate ∷ Delete ∷ Grow ∷ Access ∷ Close ∷ Release ∷ Read ∷ Fill ∷ Write ∷ Find ∷ Enter ∷ Remove
    ∷ Attr ∷ SetAttr ∷ Protect ∷ Space ∷ []

-- the verb that is written so
unfoldable pub verb_of : List ℕ → Option Verb
verb_of text = find (λ verb. bytes_eq (verb_text verb) text) all_verbs
