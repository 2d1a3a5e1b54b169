-- The transfers of Find, Enter and Remove.
use Rattle.std.proofs.Common.{◌≡◌, ℕ, ◌+◌, ◌*◌, ◌/◌, ◌≤◌, Bool, false, List, Option, if◌then◌else◌, is_none, unwrap_or, length, take, arith}
use Rattle.std.proofs.Common.{ap, subst, ◌∙◌, length-append}
use Rattle.f11_store.specs.declared.files.FileId.{FileId}
use Rattle.f11_store.specs.Causes.{is_missing}
use Rattle.f11_store.specs.Changes.{Extends}
use Rattle.f11_store.specs.Headroom.{headers_to_enter}
use Rattle.f11_store.proofs.SlotsFirst.{gained-is-ready, of-stays}
use Rattle.std.proofs.lemmas.Nat.{mul-le}
use Rattle.std.proofs.lemmas.List.{length-take}
use Rattle.f11_store.specs.File.{File, need, no_file}
use Rattle.f11_store.specs.Store.{Store, file_named, file_of, free_slots}
use Rattle.f11_store.specs.Cost.{header_count, end_blocks}
use Rattle.f11_entries.proofs.GrownLemmas.{named_grown}
use Rattle.f11_store.specs.Directory.{entry_count}
use Rattle.f11_entries.specs.Costs.{look_cost, FindFits, RemoveFits, EnterFits, AppendFits, GrownFits, GrownHeaders}

-- sums of products
more_times : (k n : ℕ) → (k + 1) * n ≡ k * n + n
more_times k n = omega arith

two_more_times : (k n : ℕ) → (k + 2) * n ≡ k * n + n + n
two_more_times k n = omega arith

-- a look takes so many
look_fits : (f : File) → look_cost f ≤ end_blocks f * (header_count f + 1) + header_count f + 1
look_fits f =
    let blocks = mul-le ((entry_count f + 31) / 32) (header_count f + 1) (end_blocks f) (header_count f + 1) (omega arith) (omega arith) in
    omega (arith, blocks)

pub find_fits : FindFits
find_fits s task d name =
    rw (more_times (end_blocks (file_named s d)) (header_count (file_named s d) + 1)) (omega (arith, look_fits (file_named s d)))

pub remove_fits : RemoveFits
remove_fits s task d name =
    rw (two_more_times (end_blocks (file_named s d)) (header_count (file_named s d) + 1)) (omega (arith, look_fits (file_named s d)))

pub enter_fits : EnterFits
enter_fits s task d id name =
    rw (more_times (end_blocks (file_named s d)) (header_count (file_named s d) + 1)) (omega (arith, look_fits (file_named s d)))

pub append_fits : AppendFits
append_fits s f = omega arith

-- as many slots as are taken, or fewer
taken_at_most : (n : ℕ) (slots : List ℕ) → length (take n slots) ≤ n
taken_at_most n slots = rw length-take (omega arith)

-- headers of a file that grew by one block
headers_grown : (s grown : Store) (d : FileId) → is_missing s d ≡ false → Extends s d.number 1 grown
    → header_count (file_named grown d) ≤ header_count (file_named s d) + 1
headers_grown s grown d there grows =
    rw (named_grown s grown d there grows, length-append (file_named s d).held (take grows.added (free_slots s)))
    (omega (arith, taken_at_most grows.added (free_slots s), grows.may_grow.headers, few))
  where
    few : need grows.before.room 1 ≤ 1
    few = omega arith

pub grown_headers : GrownHeaders
grown_headers s grown d other there h =
    let same : file_of h.ready d ≡ file_of s d = of-stays s h.ready _ d (gained-is-ready s h.ready _ h.gains) other in
    subst (λ (o : Option File). header_count (file_named grown d) ≤ header_count (unwrap_or o no_file) + 1) same
    (headers_grown h.ready grown d (ap is_none same ∙ there) h.makes)

pub grown_fits : GrownFits
grown_fits s grown d other there needs h =
    let headers : headers_to_enter (file_named s d) ≡ need (file_named s d).room 1 =
    ap (λ (b : Bool). if b then need (file_named s d).room 1 else 0) needs in
    rw headers (omega (arith, grown_headers s grown d other there h))
