-- Records of a directory that are taken, one part after another.
use Rattle.std.proofs.Common.{◌≡◌, ◌≢◌, ◌↔◌, ◌⊎◌, ◌<◌, ◌≤◌, ◌+◌, ◌*◌, ◌/◌, ◌%◌, ◌==◌, [], get_or, inl, inr, ℕ, Bool, true, false, not}
use Rattle.std.proofs.Common.{IsTrue, List, refl, ap, sym, subst, ◌∙◌, arith}
use Rattle.std.proofs.lemmas.Bool.{both_ways, cases_lt, false_from_ne_true, ne_eqb}
use Rattle.std.specs.BTreeSet.{Updates}
use Rattle.std.specs.Cmp.Lexicographic.{slice_cmp}
use Rattle.std.specs.Ordering.{nat_cmp}
use Rattle.f11_dev.specs.Image.{Image}
use Rattle.f11_dir.specs.Records.{record_of_bytes}
use Rattle.f11_dir.specs.declared.record.Record.{Record}
use Rattle.f11_findings.specs.Finding.{finding, AddsFindings, if_so}
use Rattle.f11_findings.specs.declared.finding.Finding.{Finding}
use Rattle.f11_index.specs.Table.{Table}
use Rattle.f11_rad50.specs.Name.{IsName}
use Rattle.f11_store.specs.Directory.{is_empty, record_in, record_at, record_id, record_name}
use Rattle.f11_store.specs.declared.files.FileId.{FileId}
use Rattle.f11_vfy.specs.Surveying.Bits.{has}
use Rattle.f11_vfy.specs.Chain.{KeepsTable}
use Rattle.f11_vfy.specs.Directory.Blank.{HoldNoRecord}
use Rattle.f11_vfy.specs.Directory.Reading.{until}
use Rattle.f11_vfy.specs.Directory.Flaws.{NamesFileAt, HasFlaw, has_name}
use Rattle.f11_vfy.specs.Directory.Gathered.{Begins, FindsFlaws, TakesOn, TakesRecords}
use Rattle.f11_volume.specs.Notes.{IsIdOf}
use Rattle.f11_vfy.specs.declared.directories.contents.Directory.{Directory}
use Rattle.f11_vfy.specs.declared.directories.flaws.Flaw.{Flaw}
use Rattle.f11_vfy.specs.declared.directories.flaws.Flaw.TheVariants.{NoFile, Repeated, NoName}
use Rattle.f11_vfy.specs.declared.directories.gathered.Gathered.{Gathered}
use Rattle.f11_vfy.specs.declared.survey.bits.Bits.{Bits}
use Rattle.f11_vfy.specs.declared.survey.slot.Slot.{Slot}
use Rattle.f11_vfy.proofs.Directory.Flaws.{enters-more}
use Rattle.f11_findings.proofs.FoundLemmas.{among-none, among-more, finds-same}
use Rattle.f11_vfy.proofs.Directory.Repeats.{no-names, names-more, names-repeat}

-- nothing more
pub takes-none : (slots : List Slot) (d : ℕ) (P : Image → List (List ℕ) → Type 0) (n : ℕ) (old : Gathered) → TakesOn slots d P n n old old
takes-none slots d P n old = record { limit = refl; takes = λ image t blocks first keeps is taken. taken }

-- one part after another
pub takes-more : (slots : List Slot) (d : ℕ) (P Q R : Image → List (List ℕ) → Type 0) (a b c : ℕ) (x y z : Gathered)
    → TakesOn slots d P a b x y → TakesOn slots d Q b c y z
    → ((image : Image) → (blocks : List (List ℕ)) → R image blocks → P image blocks × Q image blocks) → TakesOn slots d R a c x z
takes-more slots d P Q R a b c x y z one other both = record {
  limit = other.limit ∙ one.limit;
  takes = λ image t blocks first keeps is taken. other.takes image t blocks first keeps (both image blocks is).1
      (one.takes image t blocks first keeps (both image blocks is).0 taken);
}

-- the same, said otherwise
pub takes-same : (slots : List Slot) (d : ℕ) (P Q : Image → List (List ℕ) → Type 0) (a b m n : ℕ) (x y : Gathered)
    → TakesOn slots d P a b x y
    → a ≡ m → b ≡ n → ((image : Image) → (blocks : List (List ℕ)) → Q image blocks → P image blocks)
    → TakesOn slots d Q m n x y
takes-same slots d P Q a b m n x y one low high to = record {
  limit = one.limit;
  takes = λ image t blocks first keeps is taken.
      subst (λ (k : ℕ). TakesRecords image t d blocks k first y) high
      (one.takes image t blocks first keeps (to image blocks is)
      (subst (λ (k : ℕ). TakesRecords image t d blocks k first x) (sym low) taken));
}

-- no record of a directory in hand is taken yet
pub takes-begin : (image : Image) (t : Table) (d : ℕ) (blocks : List (List ℕ)) (old new : Gathered) → Begins old new
    → HoldNoRecord old.blank image → TakesRecords image t d blocks 0 old new
takes-begin image t d blocks old new is known = record {
  entered = λ n. (
    λ h. inl (sym (ap (λ b. has b n) is.entered) ∙ h),
    λ s. elim s [ inl h ↦ ap (λ b. has b n) is.entered ∙ h | inr e ↦ absurd (omega (arith, e.below)) ],
  );
  no_file = subst (λ (l : List Finding). FindsFlaws t d blocks 0 NoFile old.no_file l) (sym is.no_file) (among-none _ _ _);
  repeated = subst (λ (l : List Finding). FindsFlaws t d blocks 0 Repeated old.repeated l) (sym is.repeated) (among-none _ _ _);
  no_name = subst (λ (l : List Finding). FindsFlaws t d blocks 0 NoName old.no_name l) (sym is.no_name) (among-none _ _ _);
  names = no-names blocks new.names is.no_names;
  blank = subst (λ (b : Bits). HoldNoRecord b image) (sym is.blank) known;
}

-- records that are empty are as none
module _ (image : Image) (t : Table) (d : ℕ) (blocks : List (List ℕ)) (i j : ℕ) (first now : Gathered) (order : i ≤ j)
    (empty : (k : ℕ) → i ≤ k → k < j → is_empty (record_at blocks k) ≡ true) where
  earlier : (k : ℕ) → k < j → is_empty (record_at blocks k) ≡ false → k < i
  earlier k below some = elim (cases_lt k i) [ inl h ↦ h | inr h ↦ absurd (both_ways _ some (empty k h below)) ]

  finds-still : (flaw : Flaw) (old new : List Finding) → FindsFlaws t d blocks i flaw old new → FindsFlaws t d blocks j flaw old new
  finds-still flaw old new finds = finds-same _ _ old new finds
      (λ code a b f. record { number = f.number; below = omega (arith, f.below, order); holds = f.holds; is = f.is })
      (λ code a b f. record { number = f.number; below = earlier f.number f.below f.holds.0; holds = f.holds; is = f.is })

  pub takes-empty : TakesRecords image t d blocks i first now → TakesRecords image t d blocks j first now
  takes-empty taken = record {
    entered = λ n. (
      λ h. elim ((taken.entered n).0 h)
          [ inl a ↦ inl a | inr e ↦ inr (record { place = e.place; below = omega (arith, e.below, order); enters = e.enters }) ],
      λ s. (taken.entered n).1
          (elim s [
            | inl a ↦ inl a
            | inr e ↦ inr (record { place = e.place; below = earlier e.place e.below e.enters.0; enters = e.enters })
          ]),
    );
    no_file = finds-still NoFile first.no_file now.no_file taken.no_file;
    repeated = finds-still Repeated first.repeated now.repeated taken.repeated;
    no_name = finds-still NoName first.no_name now.no_name taken.no_name;
    names = λ q. (
      λ h. let e = (taken.names q).0 h in
          record { place = e.place; earlier = omega (arith, e.earlier, order); not_empty = e.not_empty; same = e.same },
      λ e. (taken.names q).1 (record {
        place = e.place;
        earlier = earlier e.place e.earlier e.not_empty;
        not_empty = e.not_empty;
        same = e.same;
      }),
    );
    blank = taken.blank;
  }

pub takes-skip : (slots : List Slot) (d : ℕ) (P : Image → List (List ℕ) → Type 0) (i j : ℕ) (now : Gathered) → i ≤ j
    → ((image : Image) → (blocks : List (List ℕ)) → P image blocks → (k : ℕ) → i ≤ k → k < j → is_empty (record_at blocks k) ≡ true)
    → TakesOn slots d P i j now now
takes-skip slots d P i j now order empty =
    record {
      limit = refl;
      takes = λ image t blocks first keeps is taken. takes-empty image t d blocks i j first now order
          (empty image blocks is) taken;
    }

-- an empty record
pub record-empty : (slots : List Slot) (d i : ℕ) (r : Record) (now : Gathered) → r.id.number ≡ 0
    → TakesOn slots d (λ _ blocks. r ≡ record_of_bytes (record_at blocks i)) i (i + 1) now now
record-empty slots d i r now none = takes-skip slots d _ i (i + 1) now (omega arith) (λ image blocks is k low high.
    let same : k ≡ i = omega (arith, low, high) in
    let number : (record_id (record_at blocks i)).number ≡ 0 = sym (ap (λ (x : Record). x.id.number) is) ∙ none in
    subst (λ (m : ℕ). is_empty (record_at blocks m) ≡ true) (sym same) (ap (λ m. m == 0) number))

-- a record that isn't empty
module _ (slots : List Slot) (d i : ℕ) (r : Record) (file added named : Bool) (old new : Gathered) (some : r.id.number ≢ 0)
    (limit : new.entered.limit ≡ old.entered.limit) (blank : new.blank ≡ old.blank)
    (update : Updates (slice_cmp nat_cmp) old.names new.names r.words true) (adds : added ≡ not (has_name old.names r.words))
    (told : (t : Table) → KeepsTable t slots → IsTrue file ↔ IsIdOf t r.id r.id.number)
    (enters : (t : Table) → KeepsTable t slots → (n : ℕ) → has new.entered n ≡ true ↔ ((has old.entered n ≡ true) ⊎ IsIdOf t r.id n))
    (names : IsTrue named ↔ IsName r.words) (no_file : AddsFindings old.no_file new.no_file (if_so (not file) (finding 7 d i)))
    (repeated : AddsFindings old.repeated new.repeated (if_so (not added) (finding 8 d i)))
    (no_name : AddsFindings old.no_name new.no_name (if_so (not named) (finding 9 d i))) where
  module _ (t : Table) (blocks : List (List ℕ)) (keeps : KeepsTable t slots) (is : r ≡ record_of_bytes (record_at blocks i)) where
    id-is : r.id ≡ record_id (record_at blocks i)
    id-is = ap (λ (x : Record). x.id) is

    words-are : r.words ≡ record_name (record_at blocks i)
    words-are = ap (λ (x : Record). x.words) is

    not_empty : is_empty (record_at blocks i) ≡ false
    not_empty = ne_eqb _ _ (λ none. some (ap (λ (x : FileId). x.number) id-is ∙ none))

    here : (n : ℕ) → has new.entered n ≡ true ↔ ((has old.entered n ≡ true) ⊎ NamesFileAt t blocks i n)
    here n = (
      λ h. elim ((enters t keeps n).0 h) [ inl a ↦ inl a | inr e ↦ inr (not_empty, subst (λ (x : FileId). IsIdOf t x n) id-is e) ],
      λ s. (enters t keeps n).1 (elim s [ inl a ↦ inl a | inr e ↦ inr (subst (λ (x : FileId). IsIdOf t x n) (sym id-is) e.1) ]),
    )

    no-file : IsTrue (not file) ↔ HasFlaw NoFile t blocks i
    no-file = (
      λ none. (
        not_empty,
        λ id.
            both_ways (not file) (ap not ((told t keeps).1 (subst (λ (x : FileId). IsIdOf t x x.number) (sym id-is) id))) none,
      ),
      λ flaw. ap not (false_from_ne_true file (λ yes. flaw.1 (subst (λ (x : FileId). IsIdOf t x x.number) id-is ((told t keeps).0 yes)))),
    )

    no-name : IsTrue (not named) ↔ HasFlaw NoName t blocks i
    no-name = (
      λ none. (not_empty, λ name. both_ways (not named) (ap not (names.1 (subst IsName (sym words-are) name))) none),
      λ flaw. ap not (false_from_ne_true named (λ yes. flaw.1 (subst IsName words-are (names.0 yes)))),
    )

    taken : (image : Image) (first : Gathered) → TakesRecords image t d blocks i first old → TakesRecords image t d blocks (i + 1) first new
    taken image first before =
        let again = names-repeat blocks i old.names new.names r.words before.names not_empty words-are update added adds in
        record {
          entered = λ n. enters-more t blocks i n _ _ _ (before.entered n) (here n);
          no_file = among-more _ _ i (not file) _ _ _ before.no_file no-file no_file;
          repeated = among-more _ _ i (not added) _ _ _ before.repeated (
            λ h. (not_empty, again.0 (false_from_ne_true added (λ yes. both_ways (not added) (ap not yes) h))),
            λ flaw.
                ap not (again.1 flaw.1),
          ) repeated;
          no_name = among-more _ _ i (not named) _ _ _ before.no_name no-name no_name;
          names = names-more blocks i old.names new.names r.words before.names not_empty words-are update;
          blank = subst (λ (b : Bits). HoldNoRecord b image) (sym blank) before.blank;
        }

  pub record-taken : TakesOn slots d (λ _ blocks. r ≡ record_of_bytes (record_at blocks i)) i (i + 1) old new
  record-taken = record { limit = limit; takes = λ image t blocks first keeps is before. taken t blocks keeps is image first before }

record-in : (blocks : List (List ℕ)) (at k : ℕ) (b : List ℕ) → k < 32 → get_or blocks at [] ≡ b
    → record_in b k ≡ record_at blocks (32 * at + k)
unfolding record_at
record-in blocks at k b small same =
    let block : at ≡ (32 * at + k) / 32 = omega (arith, small) in
    let place : k ≡ (32 * at + k) % 32 = omega (arith, small) in
    ap (λ (x : List ℕ). record_in x k) (sym same ∙ ap (λ (n : ℕ). get_or blocks n []) block)
    ∙ ap (record_in (get_or blocks ((32 * at + k) / 32) [])) place

-- record k of a block
pub block-more : (slots : List Slot) (dir : Directory) (at k : ℕ) (b : List ℕ) (r : Record) (before now after : Gathered)
    → 32 * at + k < dir.end → k < 32
    → TakesOn slots dir.d (λ _ blocks. get_or blocks at [] ≡ b) (until dir.end at) (until dir.end at + k) before now
    → r ≡ record_of_bytes (record_in b k)
    → TakesOn slots dir.d (λ _ blocks. r ≡ record_of_bytes (record_at blocks (32 * at + k))) (32 * at + k) (32 * at + k + 1) now after
    → TakesOn slots dir.d (λ _ blocks. get_or blocks at [] ≡ b) (until dir.end at) (until dir.end at + (k + 1)) before after
block-more slots dir at k b r before now after low small taken is here =
    let place : until dir.end at ≡ 32 * at = omega (arith, low) in
    takes-more slots dir.d _ _ _ _ _ _ before now after taken
    (takes-same slots dir.d _ _ _ _ _ _ now after here (omega (arith, place)) (omega (arith, place))
    (λ _ blocks same. is ∙ ap record_of_bytes (record-in blocks at k b small same)))
    (λ _ blocks same. (same, same))
