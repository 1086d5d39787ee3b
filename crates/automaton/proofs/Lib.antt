mod Folded
