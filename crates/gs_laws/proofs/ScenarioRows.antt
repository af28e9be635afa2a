-- Worked rows: two scenarios that differ in how they are run, and a third that differs in more.
use Rattle.std.proofs.Common.{◌≡◌, ℕ, List, Option, Some, codes, pos, refl, sym, ap, ◌∙◌}
use Rattle.std.proofs.lemmas.Option.{same_Some}
use Rattle.toml.specs.Data.{Data, no_items, item, Members, no_members, member, integer, string, array, table, get_member}
use Rattle.toml.specs.Parse.{parse_document}
use Rattle.toml.proofs.OnLiterals.{toml_on_literals}
use Rattle.gs_laws.specs.Scenarios.{DifferInRunning, but_for, running_keys}

-- ---- texts

-- one worker, links that hold one item
unfoldable pub by_one : List ℕ
by_one =
    codes "round_ms = 100\nrounds = 3\nworkers = 1\ncapacity = 1\nseed = 1\n[[topic]]\nname = \"news\"\n[[peer]]\nname = \"a\"\n[[peer]]\nname = \"b\"\n[[dial]]\nfrom = \"a\"\nto = \"b\"\n[[do]]\nwhat = \"subscribe\"\nat = 0\npeer = \"b\"\ntopic = \"news\"\n[[do]]\nwhat = \"publish\"\nat = 2\npeer = \"a\"\ntopic = \"news\"\nhex = \"616263\"\n"

-- sixteen workers, links that hold eight, a comment, and the keys in another order
unfoldable pub by_sixteen : List ℕ
by_sixteen =
    codes "# threads\nworkers = 16\nseed = 1\ncapacity = 8\nrounds = 3\nround_ms = 100\n[[topic]]\nname = \"news\"\n[[peer]]\nname = \"a\"\n[[peer]]\nname = \"b\"\n[[dial]]\nfrom = \"a\"\nto = \"b\"\n[[do]]\nwhat = \"subscribe\"\nat = 0\npeer = \"b\"\ntopic = \"news\"\n[[do]]\nwhat = \"publish\"\nat = 2\npeer = \"a\"\ntopic = \"news\"\nhex = \"616263\"\n"

by_another_seed : List ℕ
by_another_seed =
    codes "round_ms = 100\nrounds = 3\nworkers = 1\ncapacity = 1\nseed = 2\n[[topic]]\nname = \"news\"\n[[peer]]\nname = \"a\"\n[[peer]]\nname = \"b\"\n[[dial]]\nfrom = \"a\"\nto = \"b\"\n[[do]]\nwhat = \"subscribe\"\nat = 0\npeer = \"b\"\ntopic = \"news\"\n[[do]]\nwhat = \"publish\"\nat = 2\npeer = \"a\"\ntopic = \"news\"\nhex = \"616263\"\n"

-- ---- what they hold

named : List ℕ → Data
named name = table (member (codes "name") (string name) no_members)

dial : Data
dial = table (member (codes "from") (string (codes "a")) (member (codes "to") (string (codes "b")) no_members))

subscribe : Data
subscribe =
    table (member (codes "at") (integer (pos 0))
    (member (codes "peer") (string (codes "b"))
    (member (codes "topic") (string (codes "news"))
    (member (codes "what") (string (codes "subscribe")) no_members))))

publish : Data
publish =
    table (member (codes "at") (integer (pos 2))
    (member (codes "hex") (string (codes "616263"))
    (member (codes "peer") (string (codes "a"))
    (member (codes "topic") (string (codes "news"))
    (member (codes "what") (string (codes "publish")) no_members)))))

held : ℕ → ℕ → ℕ → Members
held workers capacity seed =
    member (codes "capacity") (integer (pos capacity))
    (member (codes "dial") (array (item dial no_items))
    (member (codes "do") (array (item subscribe (item publish no_items)))
    (member (codes "peer") (array (item (named (codes "a")) (item (named (codes "b")) no_items)))
    (member (codes "round_ms") (integer (pos 100))
    (member (codes "rounds") (integer (pos 3))
    (member (codes "seed") (integer (pos seed))
    (member (codes "topic") (array (item (named (codes "news")) no_items))
    (member (codes "workers") (integer (pos workers)) no_members))))))))

by_one_holds : parse_document by_one ≡ Some (held 1 1 1)
unfolding by_one held named dial subscribe publish toml_on_literals
by_one_holds = refl

by_sixteen_holds : parse_document by_sixteen ≡ Some (held 16 8 1)
unfolding by_sixteen held named dial subscribe publish toml_on_literals
by_sixteen_holds = refl

by_another_seed_holds : parse_document by_another_seed ≡ Some (held 1 1 2)
unfolding by_another_seed held named dial subscribe publish toml_on_literals
by_another_seed_holds = refl

-- ---- rows

-- numbers of workers and capacities don't count
pub they_differ_in_running : DifferInRunning by_one by_sixteen
unfolding held
they_differ_in_running = record {
  members = held 1 1 1;
  others = held 16 8 1;
  is = by_one_holds;
  other_is = by_sixteen_holds;
  same = refl;
}

-- a seed does
abbrev seed_in : Members → Option Data
seed_in held = get_member (codes "seed") (but_for running_keys held)

they_differ_in_more : DifferInRunning by_one by_another_seed → ⊥
unfolding held
they_differ_in_more differ =
    let mine : differ.members ≡ held 1 1 1 = same_Some _ _ (sym differ.is ∙ by_one_holds) in
    let theirs : differ.others ≡ held 1 1 2 = same_Some _ _ (sym differ.other_is ∙ by_another_seed_holds) in
    let seeds : ◌≡◌ {A = Option Data} (Some (integer (pos 1))) (Some (integer (pos 2))) =
    sym (ap seed_in mine) ∙ ap (get_member (codes "seed")) differ.same ∙ ap seed_in theirs in
    absurd cc
