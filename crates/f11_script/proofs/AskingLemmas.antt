-- What a line asks, told by the line alone.
use Rattle.std.proofs.Common.{◌≡◌, ℕ, List, [], ◌∷◌, Bool, true, false, Option, Some, None, IfSome, option_map, if◌then◌else◌, nat_lt}
use Rattle.std.proofs.Common.{length, refl, ◌∙◌, ap}
use Rattle.f11_store.specs.declared.callers.Uic.{Uic}
use Rattle.f11_script.specs.Reading.{◌>>=◌, words_between, argument, at_end}
use Rattle.f11_rad50.specs.Name.{words_spelled}
use Rattle.f11_script.specs.Fields.{task_of, uic_of, lun_of, number_of, word_of, byte_of, octal_byte_of, protection_of, id_of, mode_of}
use Rattle.f11_script.specs.Verbs.{verb_of}
use Rattle.f11_script.specs.declared.verb.Verb.{Verb}
use Rattle.f11_script.specs.declared.verb.Verb.TheVariants as verb
use Rattle.f11_script.specs.Requests.{Ask, hex_of, verb_asks, create_asks, extend_asks, contiguous_asks, truncate_asks, delete_asks}
use Rattle.f11_script.specs.Requests.{grow_asks, access_asks, close_asks, release_asks, read_asks, fill_asks, write_asks, find_asks}
use Rattle.f11_script.specs.Requests.{enter_asks, remove_asks, attr_asks, set_attr_asks, protect_asks, space_asks}
use Rattle.f11_script.specs.Lines.{no_request, bad_line, call_of, is_comment, line_of_call, line_of}
use Rattle.f11_script.specs.Asking.{Asked, nothing, badly, asked_of, saying_of_asked, saying_of, called, line_with, IsBlockOf, HasBlock}
use Rattle.f11_script.specs.Asking.{LineAsksAlone, BlockIsPassedOn}

-- what is read and then made of it, with something done to it at the end
mapped : {A B C : Type 0} (f : B → C) (o : Option A) (k : A → Option B) (j : A → Option C) → ((x : A) → j x ≡ option_map f (k x)) →
    (o >>= j) ≡ option_map f (o >>= k)
mapped f None k j same = refl
mapped f (Some x) k j same = same x

-- words call for what they say
call_of_asked : (words : List (List ℕ)) (block : List ℕ) → call_of words block ≡ option_map (λ a. called a block) (asked_of words)
unfolding call_of asked_of
call_of_asked words block =
    mapped (λ a. called a block) (argument task_of words) _ _ (λ task.
    mapped (λ a. called a block) (argument uic_of task.1) _ _ (λ uic.
    mapped (λ a. called a block) (argument verb_of uic.1) _ _ (λ v.
    mapped (λ a. called a block) (verb_asks v.0 v.1) _ _ (λ ask. refl))))

line_of_asked : (o : Option Asked) (block : List ℕ)
    → line_of_call (option_map (λ a. called a block) o) ≡ line_with (saying_of_asked o) block
line_of_asked None block = refl
line_of_asked (Some a) block = refl

pub line_asks_alone : LineAsksAlone
unfolding line_of saying_of
line_asks_alone line block = by_tests (nat_lt 1200 (length line)) (is_comment line)
  where
    by_tests : (long comment : Bool) →
        (if long then bad_line else if comment then no_request else line_of_call (call_of (words_between line) block))
        ≡ line_with (if long then badly else if comment then nothing else saying_of_asked (asked_of (words_between line))) block
    by_tests true comment = refl
    by_tests false true = refl
    by_tests false false = ap line_of_call (call_of_asked (words_between line) block) ∙ line_of_asked (asked_of (words_between line)) block

-- what holds of all that is made of what is read
so_fits : {A B : Type 0} (P : B → Type 0) (o : Option A) (k : A → Option B) → ((x : A) → IfSome (k x) P) → IfSome (o >>= k) P
so_fits P None k h = tt
so_fits P (Some x) k h = h x

-- a request has its block
abbrev Fits : Ask → Type 0
Fits a = IsBlockOf a.request a.block

ended : (words : List (List ℕ)) (a : Ask) → Fits a → IfSome (at_end words a) Fits
ended [] a h = h
ended (_ ∷ _) a h = tt

word_fits : {X : Type 0} (read : List ℕ → Option X) (words : List (List ℕ)) (k : (X × List (List ℕ)) → Option Ask) →
    ((x : X) (rest : List (List ℕ)) → IfSome (k (x, rest)) Fits) → IfSome (argument read words >>= k) Fits
word_fits read words k h = so_fits Fits (argument read words) k (λ x. h x.0 x.1)

verb_fits : (v : Verb) (words : List (List ℕ)) → IfSome (verb_asks v words) Fits
unfolding create_asks extend_asks contiguous_asks truncate_asks delete_asks grow_asks access_asks close_asks release_asks read_asks
    fill_asks write_asks find_asks enter_asks remove_asks attr_asks set_attr_asks protect_asks space_asks
verb_fits verb.Create words = word_fits words_spelled words _ (λ x0 w0. word_fits protection_of w0 _ (λ x1 w1. ended w1 _ (λ b. refl)))
verb_fits verb.Extend words = word_fits lun_of words _ (λ x0 w0. word_fits number_of w0 _ (λ x1 w1. ended w1 _ (λ b. refl)))
verb_fits verb.Contiguous words = word_fits lun_of words _ (λ x0 w0. word_fits number_of w0 _ (λ x1 w1. ended w1 _ (λ b. refl)))
verb_fits verb.Truncate words = word_fits lun_of words _ (λ x0 w0. word_fits number_of w0 _ (λ x1 w1. ended w1 _ (λ b. refl)))
verb_fits verb.Delete words = word_fits id_of words _ (λ x0 w0. ended w0 _ (λ b. refl))
verb_fits verb.Grow words = word_fits number_of words _ (λ x0 w0. ended w0 _ (λ b. refl))
verb_fits verb.Access words =
    word_fits id_of words _ (λ x0 w0. word_fits mode_of w0 _ (λ x1 w1. word_fits lun_of w1 _ (λ x2 w2. ended w2 _ (λ b. refl))))
verb_fits verb.Close words = word_fits lun_of words _ (λ x0 w0. ended w0 _ (λ b. refl))
verb_fits verb.Release words = ended words _ (λ b. refl)
verb_fits verb.Read words = word_fits lun_of words _ (λ x0 w0. word_fits number_of w0 _ (λ x1 w1. ended w1 _ (λ b. refl)))
verb_fits verb.Fill words =
    word_fits lun_of words _
    (λ x0 w0. word_fits number_of w0 _ (λ x1 w1. word_fits octal_byte_of w1 _ (λ x2 w2. ended w2 _ (_, λ b. refl))))
verb_fits verb.Write words =
    word_fits lun_of words _ (λ x0 w0. word_fits number_of w0 _ (λ x1 w1. word_fits hex_of w1 _ (λ x2 w2. ended w2 _ (_, λ b. refl))))
verb_fits verb.Find words = word_fits id_of words _ (λ x0 w0. word_fits words_spelled w0 _ (λ x1 w1. ended w1 _ (λ b. refl)))
verb_fits verb.Enter words =
    word_fits id_of words _ (λ x0 w0. word_fits words_spelled w0 _ (λ x1 w1. word_fits id_of w1 _ (λ x2 w2. ended w2 _ (λ b. refl))))
verb_fits verb.Remove words = word_fits id_of words _ (λ x0 w0. word_fits words_spelled w0 _ (λ x1 w1. ended w1 _ (λ b. refl)))
verb_fits verb.Attr words = word_fits id_of words _ (λ x0 w0. ended w0 _ (λ b. refl))
verb_fits verb.SetAttr words =
    word_fits id_of words _
    (λ x0 w0. word_fits byte_of w0 _
    (λ x1 w1. word_fits byte_of w1 _
    (λ x2 w2. word_fits word_of w2 _
    (λ x3 w3. word_fits number_of w3 _
    (λ x4 w4. word_fits number_of w4 _ (λ x5 w5. word_fits word_of w5 _ (λ x6 w6. ended w6 _ (λ b. refl))))))))
verb_fits verb.Protect words = word_fits id_of words _ (λ x0 w0. word_fits protection_of w0 _ (λ x1 w1. ended w1 _ (λ b. refl)))
verb_fits verb.Space words = ended words _ (λ b. refl)

asked_fits : (words : List (List ℕ)) → IfSome (asked_of words) (λ a. Fits a.ask)
unfolding asked_of
asked_fits words =
    so_fits _ (argument task_of words) _ (λ task.
    so_fits _ (argument uic_of task.1) _ (λ uic.
    so_fits _ (argument verb_of uic.1) _ (λ v. passed (verb_asks v.0 v.1) task.0 uic.0 (verb_fits v.0 v.1))))
  where
    passed : (o : Option Ask) (task : ℕ) (uic : Uic) → IfSome o Fits →
        IfSome (o >>= (λ ask. let a : Asked = record { task = task; caller = uic; ask = ask } in Some a)) (λ a. Fits a.ask)
    passed None task uic h = tt
    passed (Some x) task uic h = h

pub block_is_passed_on : BlockIsPassedOn
unfolding saying_of
block_is_passed_on line =
    by_tests (nat_lt 1200 (length line)) (is_comment line) (asked_of (words_between line)) (asked_fits (words_between line))
  where
    by_tests : (long comment : Bool) (o : Option Asked) → IfSome o (λ a. Fits a.ask) →
        HasBlock (if long then badly else if comment then nothing else saying_of_asked o)
    by_tests true comment o h = tt
    by_tests false true o h = tt
    by_tests false false None h = tt
    by_tests false false (Some a) h = h
