-- What the matches of the command line say of the plan.
use Rattle.std.proofs.Common.{◌≡◌, ◌≢◌, ◌⊎◌, ◌<◌, ◌==◌, map, List, [], ◌∷◌, length, Option, Some}
use Rattle.std.proofs.Common.{None, Result, Ok, Err, IfOk, IfErr, true, ap, ap₂, sym, refl, ◌∙◌, inl}
use Rattle.std.proofs.Common.{inr, arith, codes, option_map, option_and_then, Bool, false}
use Rattle.std.proofs.lemmas.Slice.Eq.{bytes_eq-Decides}
use Rattle.std.specs.Option.{option_map_or}
use Rattle.std.specs.Str.{bytes_eq}
use Rattle.std.specs.Str.Parse.{ParsesBool, true_text}
use Rattle.std.specs.Prelude.{unwrap_or}
use Rattle.clap.proofs.OnLiterals.{clap_on_literals}
use Rattle.clap.proofs.WalkLemmas.{one_text-rows}
use Rattle.clap.specs.Words.{AddsArg, AddsSubcommand, App, HasKind, HasMatchesOf, Kinds, ReadsOne}
use Rattle.clap.specs.Words.{Rule, Text, app_of, fault_of}
use Rattle.clap.specs.Words.{is_simple, is_simple_and_free, kind_of, one_text}
use Rattle.clap.specs.Words.{rows_of, rule_of, subcommand_of}
use Rattle.clap.specs.Words.{subcommand_rows_of, with_rule, with_subcommand}
use Rattle.clap.specs.declared.builder.arg.Arg.{Arg}
use Rattle.clap.specs.declared.builder.command.Command.{Command}
use Rattle.clap.specs.declared.error.Error.{Error}
use Rattle.clap.specs.declared.error.kind.ErrorKind.TheVariants.{OutOfMemory}
use Rattle.clap.specs.declared.parser.matches.ArgMatches.{ArgMatches}
use Rattle.clap.specs.declared.parser.matches.Found.{Found}
use Rattle.faults.specs.declared.fault.Fault.{Fault}
use Rattle.command_line.specs.declared.plan.Plan.{Plan}
use Rattle.faults.specs.NoMemory.{no_memory}
use Rattle.command_line.specs.Plan.{AskNothing, Asks, IsBadWords, IsLocal, Request, flag_of, program}
use Rattle.command_line.specs.Plan.{request, request_of}

-- ---- the command

program_simple : is_simple_and_free program ≡ true
unfolding clap_on_literals
program_simple = refl

program_exact : is_simple program ≡ true
unfolding clap_on_literals
program_exact = refl

-- A command with one argument more, whose rule is this one. Neither has a global argument.
pub more_arguments : (old new : Command) (a : Arg) (app : App) (rule : Rule) → AddsArg old a new →
    IsLocal old app → rule_of a ≡ rule → a.global ≡ false → IsLocal new (with_rule app rule)
more_arguments old new a app rule adds is same local = (
  adds.shape local ∙ ap₂ with_rule is.0 same,
  rw (adds.globals, is.1, local) refl,
)

-- A command with one subcommand more.
pub more_commands : (old new sub : Command) (app : App) (sub_app : App) → AddsSubcommand old sub new
    → app_of old ≡ app → IsLocal sub sub_app → app_of new ≡ with_subcommand app sub_app.top
more_commands old new sub app sub_app adds is own =
    adds.shape own.1 ∙ ap₂ with_subcommand is (ap (λ (a : App). a.top) own.0)

-- ---- what the getters say

-- whether a flag was given
pub flag_met : (E : Type 0) (f : Found) (flag : Text) (given : Option Bool)
    → (one_text f flag ≡ None → given ≡ None)
    → ((t : Text) → one_text f flag ≡ Some t → ReadsOne (ParsesBool {E = E}) t given)
    → unwrap_or given false ≡ flag_of flag (rows_of f)
flag_met E f flag given none some =
    go (one_text f flag) given refl none some
    ∙ ap (λ (o : Option Text). option_map_or (bytes_eq (codes "true")) o false)
    (one_text-rows f flag)
  where
    other : (t : Text) (b : Bool) → bytes_eq (codes "true") t ≡ b → t ≢ true_text → false ≡ b
    other t false is not_true = refl
    other t true is not_true = absurd (not_true (sym ((bytes_eq-Decides (codes "true") t).0 is)))

    go : (o : Option Text) (given : Option Bool) → one_text f flag ≡ o
        → (one_text f flag ≡ None → given ≡ None)
        → ((t : Text) → one_text f flag ≡ Some t → ReadsOne (ParsesBool {E = E}) t given)
        → unwrap_or given false ≡ option_map_or (bytes_eq (codes "true")) o false
    go None given e none some = rw (none e) refl
    go (Some t) (Some true) e none some = rw (some t e) refl
    go (Some t) (Some false) e none some = rw (some t e) refl
    go (Some t) None e none some = other t (bytes_eq (codes "true") t) refl (some t e).1.0

-- ---- what clap answers

asks-met : (words : List Text) (r : Request) → 0 < length words → fault_of program words ≡ []
    → option_and_then request_of (subcommand_of program words) ≡ Some r → Asks words r
asks-met [] r some none met = absurd (omega arith)
asks-met (word ∷ rest) r some none met = (none, met)

none-met : (words : List Text) → 0 < length words →
    option_and_then request_of (subcommand_of program words) ≡ None
    → AskNothing words
none-met [] some none = absurd (omega arith)
none-met (word ∷ rest) some none = λ r h. cc (none, h.1)

none-taken : (words : List Text) → 0 < length words → fault_of program words ≢ [] →
    AskNothing words
none-taken [] some fault = absurd (omega arith)
none-taken (word ∷ rest) some fault = λ r h. fault h.0

-- an error that isn't lack of memory has a kind
kinds-error : (kinds : Kinds) (e : Error) → HasKind kinds e → kind_of e ≢ OutOfMemory →
    kinds ≢ []
kinds-error kinds e (inl memory) other = λ _. other memory
kinds-error [] e (inr among) other = λ _. among
kinds-error (k ∷ ks) e (inr among) other = λ same. cc same

-- the command that was met in the words is what they ask for
asks-command : (a : App) (words : List Text) (m : ArgMatches) (r : Request) → a ≡ program →
    0 < length words
    → (is_simple_and_free a ≡ true → fault_of a words ≡ []) → HasMatchesOf a words m
    → option_and_then request_of (subcommand_rows_of m) ≡ Some r → Asks words r
asks-command a words m r same some none matches met =
    let simple : is_simple_and_free a ≡ true = rw same program_simple in
    let exact : is_simple a ≡ true = rw same program_exact in
    asks-met words r some (ap (λ (b : App). fault_of b words) (sym same) ∙ none simple)
    (ap (option_and_then request_of) (ap (λ (b : App). subcommand_of b words) (sym same)
    ∙ sym (matches exact).1) ∙ met)

-- .. or they ask for nothing
none-command : (a : App) (words : List Text) (m : ArgMatches) → a ≡ program → 0 < length words →
    HasMatchesOf a words m
    → option_and_then request_of (subcommand_rows_of m) ≡ None → AskNothing words
none-command a words m same some matches met =
    let exact : is_simple a ≡ true = rw same program_exact in
    none-met words some
    (ap (option_and_then request_of) (ap (λ (b : App). subcommand_of b words) (sym same)
    ∙ sym (matches exact).1) ∙ met)

-- an error that isn't lack of memory tells that they ask for nothing
pub none-error : (a : App) (words : List Text) (e : Error) → a ≡ program → 0 < length words
    → (is_simple_and_free a ≡ true → HasKind (fault_of a words) e) → kind_of e ≢ OutOfMemory →
    AskNothing words
none-error a words e same some kinds other =
    let simple : is_simple_and_free a ≡ true = rw same program_simple in
    none-taken words some (λ none. kinds-error (fault_of a words) e (kinds simple) other
    (ap (λ (b : App). fault_of b words) same ∙ none))

pub some_words : {A B : Type 0} (f : A → B) (xs : List A) → false ≡ (length xs == 0) →
    0 < length (map f xs)
some_words f [] e = cc e
some_words f (x ∷ xs) e = omega arith

-- the plan of the command that was met, or the fault where there is none
pub asks-plan : (a : App) (words : List Text) (m : ArgMatches) (plan : Option Plan)
    (r : Result Plan Fault) → a ≡ program → 0 < length words
    → (is_simple_and_free a ≡ true → fault_of a words ≡ []) → HasMatchesOf a words m
    → option_map request plan ≡ option_and_then request_of (subcommand_rows_of m)
    → IfOk r (λ p. plan ≡ Some p) → IfOk r (λ p. Asks words (request p))
asks-plan a words m plan (Ok p) same some none matches met is =
    asks-command a words m (request p) same some none matches
    (sym met ∙ ap (option_map request) is)
asks-plan a words m plan (Err f) same some none matches met is = tt

pub none-plan : (a : App) (words : List Text) (m : ArgMatches) (plan : Option Plan)
    (r : Result Plan Fault) → a ≡ program → 0 < length words → HasMatchesOf a words m
    → option_map request plan ≡ option_and_then request_of (subcommand_rows_of m)
    → IfErr r (λ f. (plan ≡ None) × ((f ≡ no_memory) ⊎ IsBadWords f))
    → IfErr r (λ f. (f ≡ no_memory) ⊎ (IsBadWords f × AskNothing words))
none-plan a words m plan (Ok p) same some matches met is = tt
none-plan a words m plan (Err f) same some matches met (is, inl memory) = inl memory
none-plan a words m plan (Err f) same some matches met (is, inr bad) =
    inr (bad, none-command a words m same some matches (sym met ∙ ap (option_map request) is))
