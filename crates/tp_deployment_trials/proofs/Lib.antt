mod Deployed
