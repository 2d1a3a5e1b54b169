-- Room for more blocks of a file.
use Rattle.std.proofs.Common.{◌≡◌, ◌≢◌, ◌-◌, ◌+◌, ◌<◌, inl, inr, ltb, ℕ, Bool, true, false, cond, IsTrue, List, [], ◌∷◌, ◌++◌, length}
use Rattle.std.proofs.Common.{length-append, Some, None, refl, sym, ap, subst, ◌∙◌, arith}
use Rattle.std.proofs.lemmas.Bool.{cases_lt, le-ltb, lt-ltb}
use Rattle.f11_dev.specs.Disk.{Disk}
use Rattle.f11_dev.specs.Image.{Image}
use Rattle.f11_header.specs.Fields.{map_area}
use Rattle.f11_header.specs.MapFields.{places}
use Rattle.f11_map.specs.HeaderBlock.{segment_number}
use Rattle.f11_index.specs.Headers.{headers_of, IsLastOf}
use Rattle.f11_index.specs.Table.{Table, table_in, table_of, first}
use Rattle.f11_index.proofs.ChainLemmas.{file_of-header, live_of-header}
use Rattle.f11_index.proofs.HeadersLemmas.{Comes, Comes-header, Comes-last, last-whole, live-some}
use Rattle.f11_chain.specs.Calls.{table, ReadsLast}
use Rattle.f11_chain.specs.declared.blocks.FileEnd.{FileEnd}
use Rattle.f11_store.specs.Causes.{◌⇐◌, first_of}
use Rattle.f11_store.specs.Cost.{header_count}
use Rattle.f11_store.specs.File.{File, need}
use Rattle.f11_store.specs.Refusal.{refusal_number}
use Rattle.f11_store.specs.Store.{Store, file_named, free_headers}
use Rattle.f11_store.specs.declared.files.FileId.{FileId}
use Rattle.f11_store.specs.declared.refusals.Refusal.{Refusal}
use Rattle.f11_store.specs.declared.refusals.Refusal.TheVariants.{NoSuchFile, TooManySegments, DeviceFull, NoHeader}
use Rattle.f11_volume.specs.Contents.{file_of, headers_reached, room_left, pointer_count}
use Rattle.f11_volume.proofs.FileLemmas.{reached-are}
use Rattle.f11_writes.specs.Kept.{file_in}
use Rattle.f11_files.specs.Answers.{is_among, ReadsAtMost, FailsToRead, faults_of}
use Rattle.f11_image_store.specs.FileLaws.{room_in}
use Rattle.f11_files.specs.Finding.First.{HoldsFile}
use Rattle.f11_files.specs.Operations.{held_causes, IsSpaceOf}
use Rattle.f11_files.specs.Extending.Room.{room_causes, FindsFileEnd, HoldsEnd}
use Rattle.f11_files.specs.Structure.{index_in, home_of, store_on, IsStructureFor}
use Rattle.f11_files.specs.declared.structure.Structure.{Structure}
use Rattle.f11_files.proofs.AnswerLemmas.{right-cause}
use Rattle.f11_image_store.proofs.FileLemmas.{last-behind}
use Rattle.f11_files.proofs.Finding.First.{table-of}
use Rattle.f11_files.proofs.Finding.Locate.{held-are, reads-along}
use Rattle.f11_files.proofs.Finding.Named.{held-named, is-file, found-named, seen-same}

-- what is answered where there is no room: no transfer failed
pub record IsClean (r : Refusal) : Type 0 where
  pub not_failed : refusal_number r ≢ 1
  pub not_damaged : refusal_number r ≢ 20
  pub no_fault : faults_of r ≡ 0
  pub other : refusal_number r ≢ 6
  pub not_wanting : refusal_number r ≢ 18
  pub among : (s : Store) (f : FileId) (n : ℕ) → is_among (held_causes s f n) r ≡ true

clean : (a b c : Bool) (r : Refusal) → first_of ((TooManySegments ⇐ a) ∷ (DeviceFull ⇐ b) ∷ (NoHeader ⇐ c) ∷ []) ≡ Some r → IsClean r
clean true b c r is =
    let same : TooManySegments ≡ r = cc in
    subst IsClean same record {
      not_failed = λ no. omega (arith, no);
      not_damaged = λ no. omega (arith, no);
      no_fault = refl;
      other = λ no. omega (arith, no);
      not_wanting = λ no. omega (arith, no);
      among = λ s f n. refl;
    }
clean false true c r is =
    let same : DeviceFull ≡ r = cc in
    subst IsClean same record {
      not_failed = λ no. omega (arith, no);
      not_damaged = λ no. omega (arith, no);
      no_fault = refl;
      other = λ no. omega (arith, no);
      not_wanting = λ no. omega (arith, no);
      among = λ s f n. refl;
    }
clean false false true r is =
    let same : NoHeader ≡ r = cc in
    subst IsClean same record {
      not_failed = λ no. omega (arith, no);
      not_damaged = λ no. omega (arith, no);
      no_fault = refl;
      other = λ no. omega (arith, no);
      not_wanting = λ no. omega (arith, no);
      among = λ s f n. refl;
    }
clean false false false r is = absurd cc

pub lacks-cause : (headers room free more n : ℕ) (r : Refusal) → first_of (room_causes headers room free more n) ≡ Some r
    → refusal_number r ≢ 6
lacks-cause headers room free more n r is = (clean _ _ _ r is).other

pub lacks-want : (headers room free more n : ℕ) (r : Refusal) → first_of (room_causes headers room free more n) ≡ Some r
    → refusal_number r ≢ 18
lacks-want headers room free more n r is = (clean _ _ _ r is).not_wanting

-- the causes stay where the number of free headers is as far from what is needed
pub causes-alike : (headers room free a b n : ℕ) → ltb a (need room n) ≡ ltb b (need room n)
    → first_of (room_causes headers room free a n) ≡ first_of (room_causes headers room free b n)
causes-alike headers room free a b n same =
    ap (λ (c : Bool). first_of ((TooManySegments ⇐ ltb 256 (headers + need room n)) ∷ (DeviceFull ⇐ ltb free n) ∷ (NoHeader ⇐ c) ∷ [])) same

-- as far from what is needed is what lacks of it
pub lacks-alike : (a b more : ℕ) → more - a ≡ more - b → ltb a more ≡ ltb b more
lacks-alike a b more same = elim (cases_lt a more) [
  | inl less ↦ lt-ltb a more less ∙ sym (lt-ltb b more (omega (arith, less, same)))
  | inr enough ↦ le-ltb a more enough ∙ sym (le-ltb b more (omega (arith, enough, same)))
]

-- the room of a file is that of its last header
module _ (image : Image) (t : Table) (f n : ℕ) (last : IsLastOf t f n) (few : segment_number (t.header n) < 256) where
  reached : headers_reached t f ≡ headers_of t f
  reached = reached-are 256 t f (last-whole t f n last) (first (file_of-header last.of))

  before : (behind : List ℕ) × Comes t f n (segment_number (t.header n)) behind
  before = Comes-header last.of few

  split : headers_of t f ≡ before.0 ++ n ∷ []
  split = Comes-last t f n (segment_number (t.header n)) before.0 before.1 (live-some (live_of-header last.of)) few last.no_link

  pub room-is : (file_of image t f).room ≡ room_in (t.header n)
  unfolding file_of
  room-is = ap (room_left t) (reached ∙ split) ∙ ap (λ (m : ℕ). places (map_area (t.header m)) - pointer_count t m) (last-behind before.0 n)

  -- and it has as many headers as that one says
  pub count-is : length (file_of image t f).held ≡ segment_number (t.header n) + 1
  unfolding file_of
  count-is = ap (λ (hs : List ℕ). length hs) (reached ∙ split) ∙ length-append before.0 (n ∷ []) ∙ ap (λ (c : ℕ). c + 1) before.1.count

-- a file's first header in hand, and its last
module _ (s : Structure) (f : FileId) (block : List ℕ) (old : Disk) (for : IsStructureFor s old)
    (holds : HoldsFile (index_in s) f block old) (end : FileEnd) (after : List ℕ) (new : Disk)
    (goes : ReadsLast (index_in s) f.number 0 end after old new) where
  abbrev st : Store
  st = store_on s old

  module _ (honest : IsTrue old.honest) where
    same : table (index_in s) old ≡ table_of old.image (home_of s)
    same = table-of s old for honest

    -- the last header is the image's
    pub last-is : after ≡ (table_of old.image (home_of s)).header end.number
    last-is = goes.header.block_is honest ∙ ap (λ (t : Table). t.header end.number) same

    pub last-of : IsLastOf (table_of old.image (home_of s)) f.number end.number
    last-of = subst (λ (t : Table). IsLastOf t f.number end.number) same (goes.is_last honest)

    pub last-few : segment_number ((table_of old.image (home_of s)).header end.number) < 256
    last-few = let here = ap segment_number last-is in omega (arith, here, goes.segment, goes.few)

    pub room-named : (file_named st f).room ≡ room_in after
    room-named =
        ap (λ (g : File). g.room) (held-named s f block old for holds honest)
        ∙ seen-same (λ (g : File). g.room) (λ g. refl) f.number (file_in (home_of s) f.number old.image)
        ∙ room-is old.image (table_of old.image (home_of s)) f.number end.number last-of last-few ∙ ap room_in (sym last-is)

    pub headers-named : length (file_named st f).held ≡ end.headers
    headers-named =
        ap (λ (hs : List ℕ). length hs) (held-are s f block old for holds honest)
        ∙ ap (λ (t : Table). length (headers_of t f.number)) (sym same) ∙ sym (goes.headers_are honest)

  module _ (room free headers slots n : ℕ) (room_is : room ≡ room_in after) (space : IsTrue old.honest → IsSpaceOf st free headers slots)
    where
      -- the causes against more blocks of it
      causes-are : IsTrue old.honest → first_of (held_causes st f n) ≡ first_of (room_causes end.headers room free headers n)
      causes-are honest =
          ap (λ (b : Bool). cond b (Some NoSuchFile)
          (first_of (room_causes (length (file_named st f).held) (file_named st f).room st.free (free_headers st) n)))
          (found-named s f old for honest (is-file s f block old for holds honest)).0
          ∙ ap (λ (k : ℕ). first_of (room_causes k (file_named st f).room st.free (free_headers st) n)) (headers-named honest)
          ∙ ap (λ (k : ℕ). first_of (room_causes end.headers k st.free (free_headers st) n)) (room-named honest ∙ sym room_is)
          ∙ ap (λ (k : ℕ). first_of (room_causes end.headers room k (free_headers st) n)) (sym (space honest).blocks_are)
          ∙ ap (λ (k : ℕ). first_of (room_causes end.headers room free k n)) (sym (space honest).headers_are)

      pub has-room : first_of (room_causes end.headers room free headers n) ≡ None → IsTrue old.honest
          → first_of (held_causes st f n) ≡ None
      has-room none honest = causes-are honest ∙ none

      pub lacks-room : (r : Refusal) → first_of (room_causes end.headers room free headers n) ≡ Some r
          → FailsToRead false (held_causes st f n) (header_count (file_named st f)) r old new
      lacks-room r is =
          let cause = clean _ _ _ r is in
          record {
            right = right-cause _ _ r cause.not_failed cause.not_damaged (cause.among st f n) (λ honest. causes-are honest ∙ is);
            reads = subst (ReadsAtMost (header_count (file_named st f)) old new) (sym cause.no_fault)
                (reads-along s f block old new 0 for holds goes.looked);
          }

-- what was read is in hand then
pub ends-then : (s : Structure) (f : FileId) (end : FileEnd) (was last : List ℕ) (old new : Disk) → FindsFileEnd s f end was last old new
    → HoldsEnd s f end was last new
ends-then s f end was last old new finds =
    let looked = finds.ends.looked.looked in
    let same = ap (λ (i : Image). table_in i (index_in s)) (sym looked.image) in
    record {
      holds = record {
        header = record {
          in_use = finds.holds.header.in_use;
          valid = finds.holds.header.valid;
          block_is = λ honest. finds.holds.header.block_is (sym looked.honest ∙ honest) ∙ ap (λ (t : Table). t.header f.number) same;
        };
        is_first = finds.holds.is_first;
      };
      header = record {
        in_use = finds.ends.header.in_use;
        valid = finds.ends.header.valid;
        block_is = λ honest. finds.ends.header.block_is (sym looked.honest ∙ honest) ∙ ap (λ (t : Table). t.header end.number) same;
      };
      no_link = finds.ends.no_link;
      segment = finds.ends.segment;
      few = finds.ends.few;
      is_last = λ honest. subst (λ (t : Table). IsLastOf t f.number end.number) same (finds.ends.is_last (sym looked.honest ∙ honest));
    }
