-- What the words of a command name.
use Rattle.std.specs.Prelude.{◌≡◌, ℕ, List, MatchOption, Option, None, Some, option_map}
use Rattle.hosed_requests.specs.ProgramWords.{AreWords, AreWrongWords, Task}
use Rattle.hosed_requests.specs.declared.verb.ProgramVerb.{ProgramVerb}
use Rattle.hosed_requests.specs.declared.verb.ProgramVerb.TheVariants as command
use Rattle.hosed_requests.specs.declared.naming.NamedByWords.{NamedByWords}

-- the files and the port that a task names, each where it names one
pub record TaskNames : Type 0 where
  pub topology : Option (List ℕ)
  pub journal : Option (List ℕ)
  pub new_topology : Option (List ℕ)
  pub new_journal : Option (List ℕ)
  pub port : Option ℕ

-- a topology and a journal, each if it is named, and nothing else
abbrev pub files_named : Option (List ℕ) → Option (List ℕ) → TaskNames
files_named topology journal = record {
  topology = topology;
  journal = journal;
  new_topology = None;
  new_journal = None;
  port = None;
}

-- what a task names
abbrev pub task_names : (names : List (List ℕ)) (verb : ProgramVerb) → Task names verb → TaskNames
task_names names command.Run (tariff, journal) = files_named None journal
task_names names command.Audit (tariff, (topology, (journal, _))) =
    files_named (Some topology) (Some journal)
task_names names command.Generate numbers = files_named None None
task_names names command.Prove (tariff, (topology, ends)) = files_named (Some topology) None
task_names names command.Check (tariff, (topology, _)) = files_named (Some topology) None
task_names names command.Price (topology, _) = files_named (Some topology) None
task_names names command.Ship (tariff, (topology, (journal, (from, _)))) =
    files_named (Some topology) (Some journal)
task_names names command.Follow (tariff, (topology, (journal, _))) =
    files_named (Some topology) (Some journal)
task_names names command.Move (_, (_, (topology, (journal, (new_topology, (new_journal, _)))))) =
    record (files_named (Some topology) (Some journal)) {
      new_topology = Some new_topology;
      new_journal = Some new_journal;
    }
task_names names command.Cut (tariff, (topology, (journal, (count, (new_journal, _))))) =
    record (files_named (Some topology) (Some journal)) {
      new_topology = Some topology;
      new_journal = Some new_journal;
    }
task_names names command.Serve (_, (topology, (journal, (port, (connections, (workers, _)))))) =
    record (files_named (Some topology) (Some journal)) { port = Some port }

-- what is named, by the bytes of each name
abbrev pub named_bytes : NamedByWords → TaskNames
named_bytes named = record {
  topology = option_map (λ name. name.now) named.topology;
  journal = option_map (λ name. name.now) named.journal;
  new_topology = option_map (λ name. name.now) named.new_topology;
  new_journal = option_map (λ name. name.now) named.new_journal;
  port = named.port;
}

-- The words are those of a command and a task, which names these files and this port.
pub record AreNamed (names words : List (List ℕ)) (named : NamedByWords) : Type 0 where
  pub verb : ProgramVerb
  pub task : Task names verb
  pub are : AreWords names words verb task
  pub same : named_bytes named ≡ task_names names verb task

-- what words name, where they are not wrong
abbrev pub NamesOf : List (List ℕ) → List (List ℕ) → Option NamedByWords → Type 0
NamesOf names words named = MatchOption named (AreWrongWords names words) (AreNamed names words)
