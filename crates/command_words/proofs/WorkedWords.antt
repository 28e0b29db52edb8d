-- The spelling of commands, computed on rows that were worked by hand.
use Rattle.std.proofs.Common.{◌≡◌, true, false, [], ◌∷◌, map, refl}
use Rattle.std.specs.Prelude.{codes}
use Rattle.std.specs.Fmt.{digits}
use Rattle.issue_list.specs.declared.choice.Choice.TheVariants.{First, Each}
use Rattle.command_words.specs.declared.command.Command.TheVariants.{Check, Make, Pme, Run, SelfRun, Worksheet}
use Rattle.command_words.specs.Words.{may_name, words_of}

expression : words_of (Pme (codes "low") (codes "n" ∷ codes "m" ∷ [])) ≡ codes "pme" ∷ codes "low" ∷ codes "n" ∷ codes "m" ∷ []
expression = refl

sheet : words_of (Worksheet (codes "lu") 5) ≡ codes "worksheet" ∷ codes "lu" ∷ codes "5" ∷ []
unfolding digits
sheet = refl

checked : words_of Check ≡ codes "check" ∷ []
checked = refl

-- a letter, then letters, digits and _, at most 32 bytes
names : map may_name (codes "a" ∷ codes "Z_9b" ∷ codes "abcdefghijklmnopqrstuvwxyz_45678" ∷ []) ≡ true ∷ true ∷ true ∷ []
names = refl

no_names : map may_name ([] ∷ codes "9a" ∷ codes "_a" ∷ codes "a-b" ∷ codes "a " ∷ codes "+" ∷ codes "abcdefghijklmnopqrstuvwxyz_456789" ∷ [])
    ≡ false ∷ false ∷ false ∷ false ∷ false ∷ false ∷ false ∷ []
no_names = refl

made : words_of (Make 0 4294967295 7) ≡ codes "make" ∷ codes "0" ∷ codes "4294967295" ∷ codes "7" ∷ []
unfolding digits
made = refl

plain_run : words_of (Run (record { block = 1024; workers = 1; choice = First; trace = false }))
    ≡ codes "run" ∷ codes "--block" ∷ codes "1024" ∷ codes "--workers" ∷ codes "1" ∷ []
unfolding digits
plain_run = refl

varied_run : words_of (Run (record { block = 2; workers = 16; choice = Each (5 ∷ 12 ∷ 1 ∷ []); trace = true }))
    ≡ codes "run" ∷ codes "--block" ∷ codes "2" ∷ codes "--workers" ∷ codes "16" ∷ codes "--variants" ∷ codes "5,12,1" ∷ codes "--trace" ∷ []
unfolding digits
varied_run = refl

generated_run : words_of (SelfRun (record { n = 256; m = 4294967291; seed = 1; block = 32; workers = 1 }))
    ≡ codes "selfrun" ∷ codes "256" ∷ codes "4294967291" ∷ codes "1" ∷ codes "--block" ∷ codes "32" ∷ codes "--workers" ∷ codes "1" ∷ []
unfolding digits
generated_run = refl
