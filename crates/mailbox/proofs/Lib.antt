mod Mailboxes
