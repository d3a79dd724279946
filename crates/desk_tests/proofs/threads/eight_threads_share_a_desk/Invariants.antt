use Rattle.desk_tests.proofs.threads.eight_threads_share_a_desk.Given as goal

-- the desk that was just opened
abbrev pub ghosts-play_eight : goal.ghosts-play_eight
ghosts-play_eight g a = record { table = a.opened.table; manifest = a.opened.manifest }
