use Rattle.desk_tests.proofs.threads.two_threads_take_turns.Given as goal

-- the desk that was just opened
abbrev pub ghosts-play_two : goal.ghosts-play_two
ghosts-play_two g a = record { table = a.opened.table; manifest = a.opened.manifest }
